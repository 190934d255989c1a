-- DEMAND 3: every call of every run since an accepted create is right in the plain observer's words.
use mathlib.Core.Path.{◌≡◌, sym, ◌∙◌}
use mathlib.Core.Bool.{true, false}
use mathlib.Core.List.{List, [], ◌∷◌}
use Prim.Native.Nat.{ℕ, ◌≤◌}
use native.Mathlib.Omega.{arith}
use Rattle.rules.specs.Calls.{refused}
use Rattle.rules.specs.Refusals.{bad_column, tests}
use Rattle.rules.specs.Plain.{Observer, started, watches, observes}
use Rattle.rules.specs.Demand.{Right}
use Rattle.rules.proofs.EveryRun.{right, tidy-moves}
use Rattle.rules.proofs.Numbers.{tests-rise, first_above, refused-exactly}
use Rattle.rules.proofs.Run.{Inv, start-inv, step_keeps}
use Rattle.tables.specs.Cells.{Tables}
use Rattle.tables.specs.Room.{roomy}
use Rattle.tables.specs.Meaning.{meaning}
use Rattle.outcomes.specs.Calls.{column_of, create_of}
use Rattle.follow.specs.Good.{Good}
use Rattle.follow.proofs.Create.{create-creates}
use Rattle.demands.specs.Asks.{Ask, query, span, read, commit, tidy, call_of, comes_to, told, tables_after, transcript_of}
use Rattle.demands.specs.Demands.{RightAt}
use Rattle.demands.proofs.Steps.{steps, tells, accepted}

-- ---- one moment

module _ (t : Tables) (o : Observer) (g : Good t) (w : Inv (meaning t) o) where
  -- whatever is asked next, the answer is right
  right-told : (a : Ask) → Right o (call_of a) (told t a)
  right-told a = rw (tells t g a) (right (meaning t) o w (call_of a))

  -- a number that is given is one of the rules' own
  number-high : (a : Ask) (n : ℕ) → told t a ≡ refused n → 3 ≤ n
  number-high a n e =
      let c = call_of a in
      first_above (tests (meaning t) c) 3 (tests-rise (meaning t) c) n ((refused-exactly (meaning t) c n).0 (sym (tells t g a) ∙ e))

  -- each part
  right-at : RightAt t o
  right-at = record {
    queries =
        λ scratch n v threshold k due rows e.
        let y = rw e at (right-told (query scratch n v threshold)) in
        (y.since, y.own, y.is_open, y.exactly);
    spans =
        λ list n a b rows e.
        let y = rw e at (right-told (span list n a b)) in
        (y.since, y.own, y.is_open, y.exactly, y.ascending);
    reads = λ n r x e. let y = rw e at (right-told (read n r)) in (y.since, y.own, y.is_open, y.cell-is);
    conflicts = λ n since x ws e. (right-told (commit n)).conflict since x ws e;
    moves =
        λ n v ns e.
        tidy-moves (meaning t) o w n v (accepted t g (tidy n v) (λ m f. let z : ◌≡◌ {A = ℕ} 0 1 = cc in omega arith));
    right = right-told;
    never = λ a. (λ e. omega (arith, number-high a _ e), λ e. omega (arith, number-high a _ e));
    stays-good = g;
  }

  -- the next moment
  next-inv : (a : Ask) → Inv (meaning (comes_to t a).after) (watches o (call_of a) (told t a))
  next-inv a = rw ((steps t g a).same-state, tells t g a) (step_keeps (meaning t) o w (call_of a))

-- ---- any run

-- every run keeps the tables good and the rules in step with the observer
run-right : (asks : List Ask) (t : Tables) (o : Observer) → Good t → Inv (meaning t) o
    → RightAt (tables_after t asks) (observes o (transcript_of t asks))
unfolding observes
run-right [] t o g w = right-at t o g w
run-right (a ∷ asks) t o g w =
    run-right asks (comes_to t a).after (watches o (call_of a) (told t a)) (steps t g a).stays-good (next-inv t o g w a)

-- THE THIRD DEMAND
pub demand-3 : (t : Tables) → roomy t ≡ true → (C : ℕ) (col : List ℕ) → bad_column C (column_of col) ≡ false → (asks : List Ask)
    → RightAt (tables_after (create_of t C col).after asks) (observes (started (column_of col)) (transcript_of (create_of t C col).after asks))
demand-3 t room C col good asks =
    let made = (create-creates t room C col).accepted good in
    run-right asks (create_of t C col).after (started (column_of col)) made.1 (rw made.0 (start-inv C (column_of col) good))
