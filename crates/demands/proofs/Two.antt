-- DEMAND 2: "Every call answers and writes exactly what 01 says. A column turned into vectors reads back as that column." After a
-- create and a begin, a read of each row gives the column's cell, a query of each value its rows. A span of one value lists what its
-- query lists.
use mathlib.Core.Path.{◌≡◌, sym, ap, ap₂, ◌∙◌}
use mathlib.Core.Bool.{Bool, false, true}
use mathlib.Core.Option.{none}
use mathlib.Core.List.{List, [], ◌∷◌}
use Prim.Native.Nat.{ℕ, ◌≤◌, ◌<◌}
use native.Mathlib.Omega.{arith}
use borrow.Author.Tests.{lt-leb, le-ltb}
use lib.Dec.{leb}
use lib.ListN.{length, replicate, get_or-replicate, length-map}
use lib.Seq.{get_or-set_same, take-nil}
use Rattle.bits.proofs.RowLaws.{length-rows, count_none}
use Rattle.bits.specs.Column.{value_of}
use Rattle.rules.specs.Limits.{max_sessions, vector_words}
use Rattle.rules.specs.State.{State, free, opened, session, start_of}
use Rattle.rules.specs.Calls.{Call, Column, cell, holds, begin, query, read, ok, value, listed, found}
use Rattle.rules.specs.Refusals.{bad_column, tests, refusal}
use Rattle.rules.specs.Step.{created, seated, effect, step}
use Rattle.rules.specs.Plain.{Observer, away, sitting, moved_by, sits, started, accepts, watches}
use Rattle.rules.specs.Demand.{Lists}
use Rattle.rules.proofs.Small.{turn-none}
use Rattle.rules.proofs.LogLaws.{stamp-empty}
use Rattle.rules.proofs.Spans.{span-one}
use Rattle.rules.proofs.Tests.{fail-all}
use Rattle.rules.proofs.Numbers.{accepted-takes-effect}
use Rattle.rules.proofs.Run.{Inv, start-inv, step_keeps}
use Rattle.rules.proofs.EveryRun.{right}
use Rattle.tables.specs.Cells.{Tables}
use Rattle.tables.specs.Room.{roomy}
use Rattle.tables.specs.Meaning.{meaning}
use Rattle.outcomes.specs.Outcome.{refusal_of_create, unless}
use Rattle.outcomes.specs.Calls.{column_of, create_of}
use Rattle.follow.specs.Good.{Good}
use Rattle.follow.specs.Follows.{Follows}
use Rattle.follow.proofs.Create.{create-creates}
use Rattle.demands.specs.Demands.{ListsRows, ReadsBack, DoesAsSaid}
use Rattle.demands.specs.Asks.{create, begin, query, span, read, call_of, comes_to, told, tables_after}
use Rattle.demands.proofs.Steps.{steps, tells, tells-effect}

module _ (C : ℕ) (col : Column) (good : bad_column C col ≡ false) (n : ℕ) (place : n < 16) where
  -- the state then
  abbrev pub begun : State
  begun = seated (created C col) n (opened 0 (length col) [])

  -- the observer then
  abbrev sat : Observer
  sat = sits (started col) n (sitting 0 [])

  -- 4 fails
  place-fits : leb max_sessions n ≡ false
  unfolding max_sessions
  place-fits = lt-leb 16 n place

  -- the session
  own : session begun n ≡ opened 0 (length col) []
  unfolding created max_sessions
  own = get_or-set_same (replicate 16 free) n (opened 0 (length col) []) free place

  -- begin opens it
  pub begins : step (created C col) (begin n) ≡ (begun, ok (0 ∷ length col ∷ []))
  unfolding step tests effect created max_sessions
  begins = rw (lt-leb 16 n place, get_or-replicate 16 n free free place, stamp-empty)

  -- the state and the observer tell the same
  inv : Inv begun sat
  unfolding watches accepts started
  inv =
      rw (begins, get_or-replicate 16 n away away place) at (step_keeps (created C col) (started col) (start-inv C col good) (begin n))

  -- a read of a row of the column
  pub reads : (r : ℕ) → r < length col → (step begun (read n r)).1 ≡ value (cell col r)
  unfolding tests effect started
  reads r low =
      let q : refusal begun (read n r) ≡ none = fail-all (tests begun (read n r))
      (place-fits, (rw own, (rw own (lt-leb (length col) r low), tt))) in
      let e = accepted-takes-effect begun (read n r) q in
      let y = rw e at (right begun sat inv (read n r)) in
      ap (λ x. x.1) e ∙ ap value (y.cell-is ∙ rw take-nil)

  -- no row has changed
  still : (k v : ℕ) → length (moved_by sat k v) ≡ 0
  unfolding started
  still k v =
      rw (take-nil k) (length-rows _ (length col) ∙ (count_none _ (length col)).1 (λ r l. sym (turn-none false (holds (cell col r) v))))

  -- the observer lists the column's rows
  listed-rows : (v threshold count : ℕ) (due : Bool) (rows : List ℕ) → Lists sat n v threshold count due rows
      → ListsRows col v (listed count due rows)
  unfolding started
  listed-rows v threshold count due rows y =
      let z : count ≡ 0 = y.flips-are ∙ still y.since v in
      record {
        rows = rows;
        answer-is = ap₂ (λ (k : ℕ) (b : Bool). listed k b rows) z (y.due-is ∙ le-ltb threshold count (omega arith));
        ascending = y.ascending;
        exactly = rw (take-nil y.since) at y.exactly;
      }

  -- a query of a value, with room for its words
  pub lists : (v threshold size : ℕ) → v < C → 32 ≤ size → ListsRows col v (step begun (query n v threshold size)).1
  unfolding tests effect created vector_words
  lists v threshold size low room =
      let c : Call = query n v threshold size in
      let q : refusal begun c ≡ none = fail-all (tests begun c) (place-fits, (rw own, (lt-leb C v low, (le-ltb size 32 room, tt)))) in
      let e = accepted-takes-effect begun c q in
      rw e (listed-rows v threshold _ _ _ (rw e at (right begun sat inv c)))

module _ (t : Tables) (room : roomy t ≡ true) (C : ℕ) (col : List ℕ) (good : bad_column C (column_of col) ≡ false) (n : ℕ)
    (place : n < 16) where
  -- create answers the row count
  creates : told t (create C col) ≡ ok (length col ∷ [])
  unfolding create_of refusal_of_create unless tests
  creates = rw (room, good)

  -- the tables after create
  abbrev made : Tables
  made = tables_after t (create C col ∷ [])

  -- and after begin
  abbrev sitting-down : Tables
  sitting-down = tables_after t (create C col ∷ begin n ∷ [])

  -- create leaves the rules' first state
  fresh : (meaning made ≡ created C (column_of col)) × Good made
  fresh = (create-creates t room C col).accepted good

  -- begin follows the rules
  opening : Follows made (call_of (begin n)) (comes_to made (begin n))
  opening = steps made fresh.1 (begin n)

  -- and leaves the session open
  means : meaning sitting-down ≡ begun C (column_of col) good n place
  means = opening.same-state ∙ rw (fresh.0, begins C (column_of col) good n place)

  -- each part
  reads-back : ReadsBack t C col n
  reads-back = record {
    creates = creates;
    means = fresh.0;
    stays-good = fresh.1;
    begins = tells made fresh.1 (begin n) ∙ rw (fresh.0, begins C (column_of col) good n place, length-map col value_of);
    reads =
        λ r l. tells sitting-down opening.stays-good (read n r)
        ∙ rw means (reads C (column_of col) good n place r (rw (length-map col value_of) l));
    lists =
        λ scratch size v threshold low.
        rw (tells sitting-down opening.stays-good (query scratch n v threshold), means)
        (lists C (column_of col) good n place v threshold (length scratch) low size);
  }

-- a span of one value is the query of that value
one_value : (t : Tables) → Good t → (list scratch : List ℕ) (n v threshold k : ℕ) (due : Bool) (rows own : List ℕ)
    → told t (span list n v v) ≡ found rows → told t (query scratch n v threshold) ≡ listed k due own → rows ≡ own
unfolding effect
one_value t g list scratch n v threshold k due rows own p q =
    let a = sym p ∙ tells-effect t g (span list n v v) (λ m e. let z : ◌≡◌ {A = ℕ} 0 1 = cc in omega arith) in
    let b = sym q ∙ tells-effect t g (query scratch n v threshold) (λ m e. let z : ◌≡◌ {A = ℕ} 0 1 = cc in omega arith) in
    cc (a, b, span-one (meaning t).log (meaning t).chains (start_of (session (meaning t) n)) v)

-- THE SECOND DEMAND
pub demand-2 : (t : Tables) → roomy t ≡ true → DoesAsSaid t
demand-2 t room = record { steps = steps t; one_value = one_value t; reads-back = reads-back t room }
