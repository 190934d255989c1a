-- `fields::end_from` meets its contract: the end is the same from each place that was passed.
use native.Mathlib.Omega.{arith}
use Rattle.fields.proofs.SplitLaws.{ends-step, ends-here, ends-end}
use Rattle.fields.proofs.end_from.Goals as goal

pub returns-then-line-i : goal.returns-then-line-i
returns-then-line-i c = search ends-here

pub loop-i-preserved : goal.loop-i-preserved
loop-i-preserved c = search ends-step

pub returns : goal.returns
returns c = ends-end _ _ _ _ c.loop-i.invariant (omega arith) (omega arith)
