-- What a line that was read comes to: the call on the tables, as the outer calls' definitions say it, and its answer in the rules' words.
use Rattle.std.specs.Prelude.{◌≡◌, List, map, ℕ, get_or}
use Rattle.std.proofs.Math.Option.{Option, none, some}
use Rattle.bits.specs.Rows.{rows_of}
use Rattle.rules.specs.Calls.{Call, Answer, refused}
use Rattle.rules.specs.Calls as rules
use Rattle.tables.specs.Cells.{Tables}
use Rattle.outcomes.specs.Said.{Said}
use Rattle.outcomes.specs.Query.{picked_from}
use Rattle.follow.specs.Heard.{heard_with}
use Rattle.demands.specs.Asks.{Ask, create, begin, query, span, read, update, delete, insert, commit, tidy, abort, comes_to, told}

-- the tables afterwards, the scratch afterwards, and the answer
pub record Turn : Type 0 where
  pub after : Tables
  pub scratch : List ℕ
  pub answer : Answer

abbrev pub turn : Tables → List ℕ → Answer → Turn
turn t s a = record { after = t; scratch = s; answer = a }

-- "a column of bytes: a value, or 255 for absent"
unfoldable pub byte_for : Option ℕ → ℕ
byte_for none = 255
byte_for (some v) = v

-- a call of the rules as it is made on lent tables; a query is lent this scratch. A span has no word, so no line asks for one: it is lent
-- the scratch as its list, only so that each call has its case here
unfoldable pub ask_with : List ℕ → Call → Ask
ask_with s (rules.create c col) = create c (map byte_for col)
ask_with s (rules.begin n) = begin n
ask_with s (rules.query n v threshold size) = query s n v threshold
ask_with s (rules.span n a b size) = span s n a b
ask_with s (rules.read n r) = read n r
ask_with s (rules.update n r v) = update n r v
ask_with s (rules.delete n r) = delete n r
ask_with s (rules.insert n v) = insert n v
ask_with s (rules.commit n) = commit n
ask_with s (rules.tidy n v) = tidy n v
ask_with s (rules.abort n) = abort n

-- the scratch after a call: as it was, where it was not lent
unfoldable pub scratch_after : List ℕ → List (List ℕ) → List ℕ
scratch_after s buffers = get_or buffers 0 s

-- what a call comes to
unfoldable pub made : Tables → List ℕ → Ask → Turn
made t s a = turn (comes_to t a).after (scratch_after s (comes_to t a).buffers) (told t a)

-- "19: unreadable line, decided before the others", or the call
unfoldable pub turn_of : Tables → List ℕ → Option Call → Turn
turn_of t s none = turn t s (refused 19)
turn_of t s (some c) = made t s (ask_with s c)

-- what an answer says, where these words and this scratch stand
unfoldable pub heard_from : List ℕ → List ℕ → Said → Answer
heard_from words scratch a = heard_with (λ place. rows_of (picked_from words scratch place)) a

-- from one state to another, with this answer: the call that was asked for was made
abbrev pub Turned : Tables → Tables → List ℕ → List ℕ → Option Call → Said → Type 0
Turned t t' s s' c a = turn t' s' (heard_from t'.words s' a) ≡ turn_of t s c
