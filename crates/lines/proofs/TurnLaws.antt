-- The call that a request asks for: what its public call comes to is what the line's definition says.
use mathlib.Core.Path.{◌≡◌, refl, sym, ap, ap₂, ◌∙◌}
use mathlib.Core.Bool.{Bool, true, false, cond}
use mathlib.Core.List.{List, [], ◌∷◌, map}
use mathlib.Core.Option.{Option, none, some}
use mathlib.Core.Logic.{◌⊎◌, inl, inr}
use Prim.Native.Nat.{ℕ, ◌≤◌}
use borrow.Author.Tests.{eq-eqb, ne_eqb}
use lib.Dec.{eqb, ltb}
use lib.ListN.{length, take}
use lib.Seq.{length-take-le}
use Rattle.bits.proofs.Cases.{eq-cases}
use Rattle.bits.specs.Column.{value_of}
use Rattle.bits.specs.Tab.{over}
use Rattle.bits.specs.Vec.{vec}
use Rattle.rules.specs.State.{session, start_of}
use Rattle.rules.specs.Limits.{usual_threshold}
use Rattle.rules.specs.Calls.{Call}
use Rattle.tables.specs.declared.session.Session.{Session}
use Rattle.tables.specs.declared.refusal.Refusal.{Refusal}
use Rattle.tables.specs.declared.refusal.Refusal.TheVariants.{Unreadable}
use Rattle.tables.specs.Cells.{Tables, tables, stamp_in, rows_in}
use Rattle.tables.specs.Clock.{clock_in}
use Rattle.tables.specs.Sessions.{begun}
use Rattle.tables.specs.Meaning.{meaning}
use Rattle.history.specs.Version.{slot_seen}
use Rattle.std.specs.Prelude.{Some, None}
use Rattle.std.specs.Prelude as std
use Rattle.text.specs.declared.requests.Request.{Request}
use Rattle.text.specs.declared.requests.Request.TheVariants as request
use Rattle.text.specs.Asked.{asked_by, asked, taken_by, taken}
use Rattle.outcomes.specs.declared.answers.Answer as core
use Rattle.outcomes.specs.Said.{Said, numbers, value, words, said}
use Rattle.outcomes.specs.Outcome.{Outcome, outcome, unless}
use Rattle.outcomes.specs.Calls.{own, reseated, beginning, create_of, begin_of, read_of, update_of, delete_of, insert_of, commit_of, tidy_of}
use Rattle.outcomes.specs.Calls.{abort_of}
use Rattle.outcomes.specs.Query.{rows_seen, flips_seen, query_of}
use Rattle.outcomes.specs.Query as calls
use Rattle.outcomes.specs.Span.{listed_span, span_of}
use Rattle.follow.specs.Heard.{heard_picked}
use Rattle.demands.specs.Asks.{Ask, create, begin, query, span, read, update, delete, insert, commit, tidy, abort, comes_to, told}
use Rattle.lines.specs.Turn.{turn, byte_for, ask_with, scratch_after, made, turn_of, heard_from, Turned}

-- ---- what a caller hears of a call other than a span is what is heard where its words and the program's scratch stand

pub record Sure (o : Outcome) : Type 0 where
  pub same : (s : List ℕ) → heard_picked o ≡ heard_from o.after.words (scratch_after s o.buffers) o.answer

-- numbers, a row's value, and words where a scratch was lent
sure-numbers : (t : Tables) (bs : List (List ℕ)) (ns : List ℕ) → Sure (outcome t bs (numbers ns))
unfolding heard_from
sure-numbers t bs ns = record { same = λ s. refl }

sure-value : (t : Tables) (x : Option ℕ) → Sure (outcome t [] (value x))
unfolding heard_from
sure-value t x = record { same = λ s. refl }

sure-words : (t : Tables) (w : List ℕ) (n : ℕ) (due : Bool) (place : Option ℕ) → Sure (outcome t (w ∷ []) (words n due place))
unfolding heard_from scratch_after
sure-words t w n due place = record { same = λ s. refl }

sure-unless : (w : Option ℕ) (t : Tables) (bs : List (List ℕ)) (o : Outcome) → Sure o → Sure (unless w t bs o)
unfolding unless heard_from
sure-unless none t bs o h = h
sure-unless (some n) t bs o h = record { same = λ s. refl }

sure-either : (b : Bool) (o p : Outcome) → Sure o → Sure p → Sure (cond b o p)
sure-either true o p h k = h
sure-either false o p h k = k

begin-sure : (t : Tables) (n : ℕ) (x : Session) → Sure (beginning t n x)
unfolding beginning
begin-sure t n x =
    sure-either (eqb x.live 1) (outcome t [] (numbers (x.start.0 ∷ x.rows.0 ∷ [])))
    (outcome (reseated t n (begun (clock_in t.clock).stamp (clock_in t.clock).rows)) []
    (numbers (stamp_in t.clock ∷ rows_in t.clock ∷ [])))
    (sure-numbers _ _ _) (sure-numbers _ _ _)

query-sure : (t : Tables) (ws : List ℕ) (k v threshold : ℕ) → Sure (calls.asked t ws k v threshold)
unfolding calls.asked
query-sure t ws k v threshold =
    let n = flips_seen t k v in
    sure-either (eqb n 0) (outcome t (ws ∷ []) (words 0 false (some (slot_seen t.slots t.heads k v))))
    (outcome t (over (vec (rows_seen t k v) 32) ws ∷ []) (words n (ltb threshold n) none)) (sure-words _ _ _ _ _) (sure-words _ _ _ _ _)

all-sure : (t : Tables) (q : Ask) → Sure (comes_to t q)
unfolding create_of begin_of query_of span_of listed_span read_of update_of delete_of insert_of commit_of tidy_of abort_of
all-sure t (create c col) = sure-unless _ t [] _ (sure-numbers _ _ _)
all-sure t (begin n) = sure-unless _ t [] _ (begin-sure t n (own t n))
all-sure t (query ws n v threshold) = sure-unless _ t (ws ∷ []) _ (query-sure t ws (start_of (session (meaning t) n)) v threshold)
all-sure t (span list n a b) = sure-unless _ t (list ∷ []) _ (sure-numbers _ _ _)
all-sure t (read n r) = sure-unless _ t [] _ (sure-value _ _)
all-sure t (update n r v) = sure-unless _ t [] _ (sure-numbers _ _ _)
all-sure t (delete n r) = sure-unless _ t [] _ (sure-numbers _ _ _)
all-sure t (insert n v) = sure-unless _ t [] _ (sure-numbers _ _ _)
all-sure t (commit n) = sure-unless _ t [] _ (sure-numbers _ _ _)
all-sure t (tidy n v) = sure-unless _ t [] _ (sure-numbers _ _ _)
all-sure t (abort n) = sure-unless _ t [] _ (sure-numbers _ _ _)

-- so it is of every call but a span
abbrev Picks : Tables → Ask → Type 0
Picks t q = told t q ≡ heard_picked (comes_to t q)

-- such a call that was made, where the request asks for it
call-turns : (t t' : Tables) (bs : List (List ℕ)) (a : Said) (s : List ℕ) (q : Ask) (c : Option Call) → outcome t' bs a ≡ comes_to t q
    → Picks t q → turn_of t s c ≡ made t s q → Turned t t' s (scratch_after s bs) c a
unfolding made
call-turns t t' bs a s q c e h k =
    ap (λ (o : Outcome).
    turn o.after (scratch_after s o.buffers) (heard_from o.after.words (scratch_after s o.buffers) o.answer)) e
    ∙ ap (turn (comes_to t q).after (scratch_after s (comes_to t q).buffers)) (sym (h ∙ (all-sure t q).same s)) ∙ sym k

-- ---- the bytes of a column

byte-again : (b : ℕ) → byte_for (value_of b) ≡ b
unfolding byte_for value_of
byte-again b = go (eq-cases b 255)
  where
    go : (b ≡ 255) ⊎ (b ≡ 255 → ⊥) → byte_for (cond (eqb b 255) none (some b)) ≡ b
    go (inl e) = rw (eq-eqb b 255 e) (sym e)
    go (inr h) = rw (ne_eqb b 255 h)

bytes-again : (l : List ℕ) → map byte_for (map value_of l) ≡ l
bytes-again [] = refl
bytes-again (b ∷ l) = ap₂ (λ (x : ℕ) (xs : List ℕ). x ∷ xs) (byte-again b) (bytes-again l)

-- a column's part of the lent bytes
pub part_length : (column : List ℕ) (wish : std.Option Request) (r : Request) (values rows : ℕ) → taken wish ≤ length column → wish ≡ Some r
    → r ≡ request.Column values rows → rows ≡ length (take rows column)
unfolding taken taken_by
part_length column wish r values rows h w e = sym (length-take-le rows column (rw (w, e) at h))

-- ---- the call of each word

module _ (clock₀ slots₀ ws₀ heads₀ log₀ changes₀ clock slots ws heads log changes : List ℕ) (ts us : List Session)
    (s column : List ℕ) (wish : std.Option Request) (answer : std.Result core.Answer Refusal) (r : Request) where
  abbrev t : Tables
  t = tables clock₀ slots₀ ws₀ heads₀ log₀ changes₀ ts

  abbrev after : Tables
  after = tables clock slots ws heads log changes us

  abbrev Done : List ℕ → Type 0
  Done s' = Turned t after s s' (asked wish column) (said answer)

  -- what the request asks for
  by_word : (q : Request) → wish ≡ Some r → r ≡ q → turn_of t s (asked wish column) ≡ turn_of t s (some (asked_by q column))
  unfolding asked
  by_word q w e = rw (w, e)

  -- the call that was made came to this
  abbrev Came : List (List ℕ) → Outcome → Type 0
  Came bs o = outcome after bs (said answer) ≡ o

  turns : (bs : List (List ℕ)) (k : Ask) → Came bs (comes_to t k) → Picks t k → turn_of t s (asked wish column) ≡ made t s k
      → Done (scratch_after s bs)
  turns bs k e h c = call-turns t after bs (said answer) s k (asked wish column) e h c

  pub create-turns : (values rows : ℕ) → wish ≡ Some r → r ≡ request.Column values rows → Came [] (create_of t values (take rows column))
      → Done s
  unfolding asked_by turn_of ask_with scratch_after
  create-turns values rows w p e =
      turns [] (create values (take rows column)) e refl
      (by_word (request.Column values rows) w p ∙ ap (λ (col : List ℕ). made t s (create values col)) (bytes-again (take rows column)))

  pub begin-turns : (n : ℕ) → wish ≡ Some r → r ≡ request.Begin n → Came [] (begin_of t n) → Done s
  unfolding asked_by turn_of ask_with scratch_after
  begin-turns n w p e = turns [] (begin n) e refl (by_word (request.Begin n) w p)

  pub query-turns : (s' : List ℕ) (n v : ℕ) → wish ≡ Some r → r ≡ request.Query n v → Came (s' ∷ []) (query_of t s n v 8) → Done s'
  unfolding asked_by turn_of ask_with scratch_after usual_threshold
  query-turns s' n v w p e = turns (s' ∷ []) (query s n v 8) e refl (by_word (request.Query n v) w p)

  pub read-turns : (n m : ℕ) → wish ≡ Some r → r ≡ request.Read n m → Came [] (read_of t n m) → Done s
  unfolding asked_by turn_of ask_with scratch_after
  read-turns n m w p e = turns [] (read n m) e refl (by_word (request.Read n m) w p)

  pub update-turns : (n m v : ℕ) → wish ≡ Some r → r ≡ request.Update n m v → Came [] (update_of t n m v) → Done s
  unfolding asked_by turn_of ask_with scratch_after
  update-turns n m v w p e = turns [] (update n m v) e refl (by_word (request.Update n m v) w p)

  pub delete-turns : (n m : ℕ) → wish ≡ Some r → r ≡ request.Delete n m → Came [] (delete_of t n m) → Done s
  unfolding asked_by turn_of ask_with scratch_after
  delete-turns n m w p e = turns [] (delete n m) e refl (by_word (request.Delete n m) w p)

  pub insert-turns : (n v : ℕ) → wish ≡ Some r → r ≡ request.Insert n v → Came [] (insert_of t n v) → Done s
  unfolding asked_by turn_of ask_with scratch_after
  insert-turns n v w p e = turns [] (insert n v) e refl (by_word (request.Insert n v) w p)

  pub commit-turns : (n : ℕ) → wish ≡ Some r → r ≡ request.Commit n → Came [] (commit_of t n) → Done s
  unfolding asked_by turn_of ask_with scratch_after
  commit-turns n w p e = turns [] (commit n) e refl (by_word (request.Commit n) w p)

  pub tidy-turns : (n v : ℕ) → wish ≡ Some r → r ≡ request.Tidy n v → Came [] (tidy_of t n v) → Done s
  unfolding asked_by turn_of ask_with scratch_after
  tidy-turns n v w p e = turns [] (tidy n v) e refl (by_word (request.Tidy n v) w p)

  pub abort-turns : (n : ℕ) → wish ≡ Some r → r ≡ request.Abort n → Came [] (abort_of t n) → Done s
  unfolding asked_by turn_of ask_with scratch_after
  abort-turns n w p e = turns [] (abort n) e refl (by_word (request.Abort n) w p)

-- a line that was not read
pub none-turns : (t : Tables) (s column : List ℕ) (wish : std.Option Request) → wish ≡ None
    → Turned t t s s (asked wish column) (said (std.Err Unreadable))
unfolding asked turn_of heard_from
none-turns t s column wish p = rw p
