-- `finish` meets its contract.
use native.Mathlib.Omega.{arith}
use Rattle.steps.proofs.ProgramLaws.{ends-over, ends-empty, ends-last}
use Rattle.steps.proofs.finish.Goals as goal
use Rattle.steps.proofs.finish.Goals.{then-is_err-via-then-is_err, then-is_err-via-else-is_err+then-stand-eq0}

pub returns-then-is_err-clause-ends : goal.returns-then-is_err-clause-ends
returns-then-is_err-clause-ends c = elim c.then-is_err.branch [
  | then-is_err-via-then-is_err w ↦ ends-over _ _ c.is_err.ensures.negation w.if-is_err.true
  | then-is_err-via-else-is_err+then-stand-eq0 w ↦ ends-empty _ (omega arith)
]

pub returns-clause-ends : goal.returns-clause-ends
returns-clause-ends c = ends-last _ _ c.is_err.ensures.negation c.if-is_err.false (omega arith) c.requires.2 c.whole.ensures.through
