-- The lifting theorem: work on anything whose steps are the rules' steps on what it means is right in every run.
use mathlib.Core.Path.{◌≡◌, refl, ap, ap₂, ◌∙◌}
use mathlib.Core.Bool.{false}
use mathlib.Core.List.{List, [], ◌∷◌}
use Prim.Native.Nat.{ℕ}
use Rattle.rules.specs.State.{State}
use Rattle.rules.specs.Calls.{Column, Call, Answer}
use Rattle.rules.specs.Refusals.{bad_column}
use Rattle.rules.specs.Step.{created, step, transcript}
use Rattle.rules.specs.Plain.{started}
use Rattle.rules.specs.Demand.{AllRight}
use Rattle.rules.proofs.Invariant.{Undamaged}
use Rattle.rules.proofs.EveryRun.{every-run}
use Rattle.rules.proofs.Undamaged.{created-undamaged, step-undamaged}

-- what is worked on, the state that it means, the work of one call, and what the work keeps of its own
module _ (K : Type 0) (meaning : K → State) (work : K → Call → K × Answer) (Good : K → Type 0) where
  -- on what is good and means an undamaged state, the work does and answers what the rules say, and leaves it good
  pub record Follows : Type 0 where
    pub same-state : (k : K) (c : Call) → Good k → Undamaged (meaning k) → meaning (work k c).0 ≡ (step (meaning k) c).0
    pub same_answer : (k : K) (c : Call) → Good k → Undamaged (meaning k) → (work k c).1 ≡ (step (meaning k) c).1
    pub stays-good : (k : K) (c : Call) → Good k → Undamaged (meaning k) → Undamaged (meaning (work k c).0) → Good (work k c).0

  -- the work's own transcript of a run
  abbrev pub work_transcript : K → List Call → List (Call × Answer)
  work_transcript k [] = []
  work_transcript k (c ∷ cs) = (c, (work k c).1) ∷ work_transcript (work k c).0 cs

  -- before each call of a run and after the last
  abbrev pub AtEach : (K → Type 0) → K → List Call → Type 0
  AtEach P k [] = P k
  AtEach P k (c ∷ cs) = P k × AtEach P (work k c).0 cs

  -- a run of calls on k: right in the plain observer's words from the first column on, with what is worked on good and its meaning
  -- undamaged at every moment
  pub record Works (col : Column) (k : K) (cs : List Call) : Type 0 where
    pub all_right : AllRight (started col) (work_transcript k cs)
    pub stays : AtEach (λ x. Good x × Undamaged (meaning x)) k cs

  module _ (f : Follows) where
    next-undamaged : (k : K) (c : Call) → Good k → Undamaged (meaning k) → Undamaged (meaning (work k c).0)
    next-undamaged k c g u = rw (f.same-state k c g u) (step-undamaged (meaning k) u c)

    next-good : (k : K) (c : Call) → Good k → Undamaged (meaning k) → Good (work k c).0
    next-good k c g u = f.stays-good k c g u (next-undamaged k c g u)

    each : (cs : List Call) (k : K) → Good k → Undamaged (meaning k) → AtEach (λ x. Good x × Undamaged (meaning x)) k cs
    each [] k g u = (g, u)
    each (c ∷ cs) k g u = ((g, u), each cs (work k c).0 (next-good k c g u) (next-undamaged k c g u))

    -- the work's transcript is the rules' own
    pub same-transcript : (cs : List Call) (k : K) → Good k → Undamaged (meaning k) → work_transcript k cs ≡ transcript (meaning k) cs
    unfolding transcript
    same-transcript [] k g u = refl
    same-transcript (c ∷ cs) k g u =
        ap₂ (λ (a : Answer) (t : List (Call × Answer)). (c, a) ∷ t) (f.same_answer k c g u)
        (same-transcript cs (work k c).0 (next-good k c g u) (next-undamaged k c g u)
        ∙ ap (λ (s : State). transcript s cs) (f.same-state k c g u))

    -- THE LIFTING THEOREM
    pub every-work : (C : ℕ) (col : Column) → bad_column C col ≡ false → (k : K) → Good k → meaning k ≡ created C col → (cs : List Call)
        → Works col k cs
    every-work C col good k g e cs =
        let u : Undamaged (meaning k) = rw e (created-undamaged C col good) in
        record {
          all_right = rw (same-transcript cs k g u, e) (every-run C col good cs);
          stays = each cs k g u;
        }
