-- The three demands, each as one statement.
use Rattle.std.specs.Prelude.{◌≡◌, Bool, true, false, ◌↔◌, ℕ, ◌≤◌, ◌<◌, length, drop}
use Rattle.std.proofs.Math.Option.{Option, some}
use mathlib.Core.List.{List, [], ◌∷◌, Memᴰ}
use Rattle.bits.specs.Rows.{Ascending}
use Rattle.rules.specs.Calls.{Column, cell, Answer, refused, ok, value, listed, found}
use Rattle.rules.specs.Refusals.{Test, First, bad_column}
use Rattle.rules.specs.Step.{created}
use Rattle.rules.specs.Plain.{Wish, sitting, Observer, visitor, column_at}
use Rattle.rules.specs.Demand.{Overtaken, HoldsOneOf, Right}
use Rattle.rules.specs.Moved.{MovesRows}
use Rattle.tables.specs.Cells.{Tables}
use Rattle.tables.specs.Meaning.{meaning}
use Rattle.outcomes.specs.Said.{no}
use Rattle.outcomes.specs.Calls.{column_of}
use Rattle.follow.specs.Good.{Good}
use Rattle.follow.specs.Follows.{Follows}
use Rattle.demands.specs.Asks.{Ask, create, begin, query, span, read, commit, tidy, call_of, buffers_of, comes_to, told, tables_after}
use Rattle.demands.specs.Conditions.{conditions}

-- DEMAND 1, of any call on any tables. "Bad input is refused by document 01's numbers, always the smallest that applies; a
-- refusal changes no cell."
pub record RefusedRightly (t : Tables) (a : Ask) : Type 0 where
  -- the number given is that of the first condition, in the stated order, that holds
  pub first : (n : ℕ) → ((comes_to t a).answer ≡ no n) ↔ First (conditions t a) n
  -- whenever a condition holds a number is given, and none that applies is smaller
  pub smallest : (c : Test) → Memᴰ c (conditions t a) → c.0 ≡ true → (n : ℕ) × ((comes_to t a).answer ≡ no n) × (n ≤ c.1)
  -- the tables, sessions among them, and the further buffers are then those at entry, cell for cell
  pub unchanged : (n : ℕ) → (comes_to t a).answer ≡ no n → ((comes_to t a).after ≡ t) × ((comes_to t a).buffers ≡ buffers_of a)

-- an answer to a query: no row flipped, so no tidy due, and exactly the rows of a column that hold v, ascending
pub record ListsRows (col : Column) (v : ℕ) (a : Answer) : Type 0 where
  pub rows : List ℕ
  pub answer-is : a ≡ listed 0 false rows
  pub ascending : Ascending rows
  pub exactly : (r : ℕ) → Memᴰ r rows ↔ (cell col r ≡ some v)

-- "A column turned into vectors reads back as that column.": of tables with room, damaged or not, and a column that create accepts
pub record ReadsBack (t : Tables) (C : ℕ) (col : List ℕ) (n : ℕ) : Type 0 where
  pub creates : told t (create C col) ≡ ok (length col ∷ [])
  -- the tables then mean document 01's first state, and are good
  pub means : meaning (tables_after t (create C col ∷ [])) ≡ created C (column_of col)
  pub stays-good : Good (tables_after t (create C col ∷ []))
  pub begins : told (tables_after t (create C col ∷ [])) (begin n) ≡ ok (0 ∷ length col ∷ [])
  -- a read of each row gives that row
  pub reads : (r : ℕ) → r < length col → told (tables_after t (create C col ∷ begin n ∷ [])) (read n r) ≡ value (cell (column_of col) r)
  -- a query of each value, whatever scratch is lent, lists exactly its rows
  pub lists : (scratch : List ℕ) → 32 ≤ length scratch → (v threshold : ℕ) → v < C
      → ListsRows (column_of col) v (told (tables_after t (create C col ∷ begin n ∷ [])) (query scratch n v threshold))

-- DEMAND 2, of any tables with room
pub record DoesAsSaid (t : Tables) : Type 0 where
  -- "Every call answers and writes exactly what 01 says.": on tables that are not damaged, what any call leaves means document 01's
  -- next state, what its caller is told is document 01's answer, and the tables stay good
  pub steps : Good t → (a : Ask) → Follows t (call_of a) (comes_to t a)
  -- a span of one value lists exactly what the query of that value lists
  pub one_value : Good t → (list scratch : List ℕ) (n v threshold k : ℕ) (due : Bool) (rows own : List ℕ)
      → told t (span list n v v) ≡ found rows → told t (query scratch n v threshold) ≡ listed k due own → rows ≡ own
  -- create asks nothing of the cells, so that this is of damaged tables too
  pub reads-back : (C : ℕ) (col : List ℕ) → bad_column C (column_of col) ≡ false → (n : ℕ) → n < 16 → ReadsBack t C col n

-- DEMAND 3, at any moment of any run of calls since an accepted create: the tables then, the plain observer of the run then
pub record RightAt (t : Tables) (o : Observer) : Type 0 where
  -- "each accepted query lists exactly the rows holding that value after replaying, on the plain first column and in stamp order,
  -- the commits accepted before its session was opened": those among the events that the session sits since
  pub queries : (scratch : List ℕ) (n v threshold k : ℕ) (due : Bool) (rows : List ℕ)
      → told t (query scratch n v threshold) ≡ listed k due rows → (since : ℕ) × (own : List Wish) × (visitor o n ≡ sitting since own)
      × ((r : ℕ) → Memᴰ r rows ↔ (cell (column_at o since) r ≡ some v))
  -- K1, "Demand 3 reads for a span as the union of its values": the rows holding one of them, each once
  pub spans : (list : List ℕ) (n a b : ℕ) (rows : List ℕ) → told t (span list n a b) ≡ found rows
      → (since : ℕ) × (own : List Wish) × (visitor o n ≡ sitting since own)
      × ((r : ℕ) → Memᴰ r rows ↔ HoldsOneOf (column_at o since) a b r) × Ascending rows
  -- the same for read
  pub reads : (n r : ℕ) (x : Option ℕ) → told t (read n r) ≡ value x
      → (since : ℕ) × (own : List Wish) × (visitor o n ≡ sitting since own) × (x ≡ cell (column_at o since) r)
  -- "A commit with something listed is refused for conflict exactly if, since the opening, an accepted commit listed or an accepted
  -- tidy moved one of its rows."
  pub conflicts : (n since : ℕ) (w : Wish) (ws : List Wish) → visitor o n ≡ sitting since (w ∷ ws)
      → (told t (commit n) ≡ refused 12) ↔ Overtaken (drop since o.events) (w ∷ ws)
  -- "an accepted tidy moved": the rows that the observer takes note of are document 01's moved rows, and those of the tidy's record
  pub moves : (n v : ℕ) (ns : List ℕ) → told t (tidy n v) ≡ ok ns → MovesRows (meaning t) o n v
  -- every answer is as the observer says
  pub right : (a : Ask) → Right o (call_of a) (told t a)
  -- refusals 1 and 2 never occur
  pub never : (a : Ask) → (told t a ≡ refused 1 → ⊥) × (told t a ≡ refused 2 → ⊥)
  -- the tables have room and no damage
  pub stays-good : Good t
