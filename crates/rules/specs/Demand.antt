-- What demand 3 claims of a call and its answer, in the plain observer's words, before the observer takes note of them.
use Rattle.std.specs.Prelude.{◌≡◌, Bool, true, ◌↔◌, ℕ, suc, ◌≤◌, ◌<◌, ltb, length, drop}
use Rattle.std.proofs.Math.Option.{Option, some}
use mathlib.Core.List.{List, [], ◌∷◌, Memᴰ}
use Rattle.bits.specs.Rows.{Ascending}
use Rattle.rules.specs.Calls.{cell, Call, create, begin, query, span, read, update, delete, insert, commit, tidy, abort, Answer}
use Rattle.rules.specs.Calls.{Column, refused, ok, value, listed, found}
use Rattle.rules.specs.Plain.{Wish, Event, Visitor, away, sitting, Observer, visitor, column_at, column_now, holding, count_wished}
use Rattle.rules.specs.Plain.{wishes_of, is_wished, touches, moved_by, accepts, watches}

-- a call that answers numbers only: where it is accepted, they are these
abbrev pub Numbers : List ℕ → Answer → Type 0
Numbers ns (refused n) = Unit {0}
Numbers ns (ok ms) = ms ≡ ns
Numbers ns (value x) = ⊥
Numbers ns (listed n d rs) = ⊥
Numbers ns (found rs) = ⊥

-- an accepted query of v, its session open since k events: exactly the rows that hold v after replaying the commits among these
-- events, as a list, row by row and ascending; the flip count is how many rows came to v or left it since its last tidy
pub record Lists (o : Observer) (i v t n : ℕ) (d : Bool) (rs : List ℕ) : Type 0 where
  pub since : ℕ
  pub own : List Wish
  pub is_open : visitor o i ≡ sitting since own
  pub rows_are : rs ≡ holding (column_at o since) v
  pub exactly : (r : ℕ) → Memᴰ r rs ↔ (cell (column_at o since) r ≡ some v)
  pub ascending : Ascending rs
  pub flips-are : n ≡ length (moved_by o since v)
  pub due-is : d ≡ ltb t n

abbrev pub RightQuery : Observer → ℕ → ℕ → ℕ → Answer → Type 0
RightQuery o i v t (refused n) = Unit {0}
RightQuery o i v t (ok ns) = ⊥
RightQuery o i v t (value x) = ⊥
RightQuery o i v t (listed n d rs) = Lists o i v t n d rs
RightQuery o i v t (found rs) = ⊥

-- a row of a column holds one of the values a to b
abbrev pub HoldsOneOf : Column → ℕ → ℕ → ℕ → Type 0
HoldsOneOf col a b r = (v : ℕ) × (a ≤ v) × (v ≤ b) × (cell col r ≡ some v)

-- K1: an accepted span of the values a to b, its session open since k events: exactly the rows that hold one of them after replaying
-- the commits among these events, ascending, so that each is listed once
pub record Spans (o : Observer) (i a b : ℕ) (rs : List ℕ) : Type 0 where
  pub since : ℕ
  pub own : List Wish
  pub is_open : visitor o i ≡ sitting since own
  pub exactly : (r : ℕ) → Memᴰ r rs ↔ HoldsOneOf (column_at o since) a b r
  pub ascending : Ascending rs

abbrev pub RightSpan : Observer → ℕ → ℕ → ℕ → Answer → Type 0
RightSpan o i a b (refused n) = Unit {0}
RightSpan o i a b (ok ns) = ⊥
RightSpan o i a b (value x) = ⊥
RightSpan o i a b (listed n d rs) = ⊥
RightSpan o i a b (found rs) = Spans o i a b rs

-- an accepted read of a row: that column's cell
pub record Reads (o : Observer) (i r : ℕ) (x : Option ℕ) : Type 0 where
  pub since : ℕ
  pub own : List Wish
  pub is_open : visitor o i ≡ sitting since own
  pub in-column : r < length (column_at o since)
  pub cell-is : x ≡ cell (column_at o since) r

abbrev pub RightRead : Observer → ℕ → ℕ → Answer → Type 0
RightRead o i r (refused n) = Unit {0}
RightRead o i r (ok ns) = ⊥
RightRead o i r (value x) = Reads o i r x
RightRead o i r (listed n d rs) = ⊥
RightRead o i r (found rs) = ⊥

-- begin: the events so far and the length of the column now, or, where the session is open, those of its opening
abbrev pub begins_at : Observer → Visitor → List ℕ
begins_at o away = length o.events ∷ length (column_now o) ∷ []
begins_at o (sitting k ws) = k ∷ length (column_at o k) ∷ []

-- update, delete, insert: how many rows the session wishes for then
abbrev pub lists_then : Observer → ℕ → Call → List ℕ
lists_then o i c = count_wished (wishes_of (visitor (accepts o c) i)) ∷ []

-- a row that one of the wishes is for and that one of the events touches
abbrev pub Overtaken : List Event → List Wish → Type 0
Overtaken h ws = (r : ℕ) × (e : Event) × (is_wished ws r ≡ true) × Memᴰ e h × (touches e r ≡ true)

-- commit: one more than the events so far, and the length of the column then; "A commit with something listed is refused for
-- conflict exactly if, since the opening, an accepted commit listed or an accepted tidy moved one of its rows."
pub record RightCommit (o : Observer) (i : ℕ) (a : Answer) : Type 0 where
  pub numbers : Numbers (suc (length o.events) ∷ length (column_now (accepts o (commit i))) ∷ []) a
  pub conflict : (k : ℕ) (w : Wish) (ws : List Wish) → visitor o i ≡ sitting k (w ∷ ws)
      → (a ≡ refused 12) ↔ Overtaken (drop k o.events) (w ∷ ws)

-- tidy: one more than the events so far, and how many rows it moves
abbrev pub tidies_at : Observer → ℕ → Visitor → List ℕ
tidies_at o v away = []
tidies_at o v (sitting k ws) = suc (length o.events) ∷ length (moved_by o k v) ∷ []

abbrev pub Right : Observer → Call → Answer → Type 0
Right o (create C col) a = Numbers (length col ∷ []) a
Right o (begin i) a = Numbers (begins_at o (visitor o i)) a
Right o (query i v t n) a = RightQuery o i v t a
Right o (span i a b n) x = RightSpan o i a b x
Right o (read i r) a = RightRead o i r a
Right o (update i r v) a = Numbers (lists_then o i (update i r v)) a
Right o (delete i r) a = Numbers (lists_then o i (delete i r)) a
Right o (insert i v) a = Numbers (lists_then o i (insert i v)) a
Right o (commit i) a = RightCommit o i a
Right o (tidy i v) a = Numbers (tidies_at o v (visitor o i)) a
Right o (abort i) a = Numbers (count_wished (wishes_of (visitor o i)) ∷ []) a

-- each call of a transcript is right, the observer standing where it stands before the call
abbrev pub AllRight : Observer → List (Call × Answer) → Type 0
AllRight o [] = Unit {0}
AllRight o (p ∷ ps) = Right o p.0 p.1 × AllRight (watches o p.0 p.1) ps
