-- The numbers in which a call's answer goes to C, what they say, and what C sees of a call.
use Rattle.std.specs.Prelude.{◌≡◌, Bool, true, false, cond, List, [], ◌∷◌, ℕ, ◌+◌, eqb, ltb}
use Rattle.std.proofs.Math.Option.{Option, none, some}
use Rattle.tables.specs.Cells.{Tables}
use Rattle.outcomes.specs.Said.{Said, no, numbers, value, words}
use Rattle.outcomes.specs.Outcome.{Outcome}
use Rattle.outcomes.specs.Query.{query_of}
use Rattle.outcomes.specs.Span.{span_of}
use Rattle.outcomes.specs.Calls.{create_of, begin_of, read_of, update_of, delete_of, insert_of, commit_of, tidy_of, abort_of}
use Rattle.kerenvuf.specs.declared.in_numbers.KvAnswer.{KvAnswer}
use Rattle.kerenvuf.specs.Picked.{place_named}

abbrev pub kv : ℕ → ℕ → ℕ → ℕ → ℕ → KvAnswer
kv refusal kind a b c = record { refusal = refusal; kind = kind; a = a; b = b; c = c }

abbrev pub bit_of : Bool → ℕ
bit_of true = 1
bit_of false = 0

-- 0 the scratch, k + 1 slot k of the 96 (97 would be no slot: no query answers it, see `AllHeard`)
abbrev pub place_number : Option ℕ → ℕ
place_number none = 0
place_number (some k) = cond (ltb k 96) (k + 1) 97

abbrev pub read_numbers : Option ℕ → KvAnswer
read_numbers (some v) = kv 0 3 v 0 0
read_numbers none = kv 0 4 0 0 0

-- the kinds: 0 refused, 1 count, 2 stamp and count, 3 value, 4 absent, 5 query; numbers that a kind does not name are 0
abbrev pub encoded : Said → KvAnswer
encoded (no n) = kv n 0 0 0 0
encoded (numbers []) = kv 0 1 0 0 0
encoded (numbers (n ∷ [])) = kv 0 1 n 0 0
encoded (numbers (s ∷ n ∷ ns)) = kv 0 2 s n 0
encoded (value x) = read_numbers x
encoded (words n due place) = kv 0 5 n (bit_of due) (place_number place)

-- what the numbers say to whoever reads them by their kind
unfoldable pub decoded : KvAnswer → Said
decoded x =
    cond (eqb x.kind 0) (no x.refusal)
    (cond (eqb x.kind 1) (numbers (x.a ∷ []))
    (cond (eqb x.kind 2) (numbers (x.a ∷ x.b ∷ []))
    (cond (eqb x.kind 3) (value (some x.a))
    (cond (eqb x.kind 4) (value none)
    (words x.a (eqb x.b 1) (place_named x.c))))))

-- what C sees of a call: the tables and the further lent buffers afterwards, and the numbers of the answer
pub record Seen : Type 0 where
  pub after : Tables
  pub buffers : List (List ℕ)
  pub answer : KvAnswer

abbrev pub seen : Tables → List (List ℕ) → KvAnswer → Seen
seen t bs a = record { after = t; buffers = bs; answer = a }

-- what it sees of what a call comes to
abbrev pub in_numbers : Outcome → Seen
in_numbers o = seen o.after o.buffers (encoded o.answer)

-- nothing is lost in the numbers: of what a call says they say the same
abbrev pub Kept : Said → Type 0
Kept s = decoded (encoded s) ≡ s

-- at any tables
pub record AllHeard : Type 0 where
  pub create : (t : Tables) (c : ℕ) (column : List ℕ) → Kept (create_of t c column).answer
  pub begin : (t : Tables) (n : ℕ) → Kept (begin_of t n).answer
  pub query : (t : Tables) (scratch : List ℕ) (n v threshold : ℕ) → Kept (query_of t scratch n v threshold).answer
  pub span : (t : Tables) (list : List ℕ) (n a b : ℕ) → Kept (span_of t list n a b).answer
  pub read : (t : Tables) (n row : ℕ) → Kept (read_of t n row).answer
  pub update : (t : Tables) (n row v : ℕ) → Kept (update_of t n row v).answer
  pub delete : (t : Tables) (n row : ℕ) → Kept (delete_of t n row).answer
  pub insert : (t : Tables) (n v : ℕ) → Kept (insert_of t n v).answer
  pub commit : (t : Tables) (n : ℕ) → Kept (commit_of t n).answer
  pub tidy : (t : Tables) (n v : ℕ) → Kept (tidy_of t n v).answer
  pub abort : (t : Tables) (n : ℕ) → Kept (abort_of t n).answer
