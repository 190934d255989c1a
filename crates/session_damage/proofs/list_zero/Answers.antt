-- `list_zero` meets its contract: a fold that gathers the rows in one number, and one for the targets.
use native.Mathlib.Omega.{arith}
use Rattle.bits.proofs.OrLaws.{or-zero, or-more}
use Rattle.session_damage.proofs.EntryLaws.{zero-gathered}
use Rattle.session_damage.proofs.list_zero.Goals as goal

pub loop-row-init : goal.loop-row-init
loop-row-init c = search or-zero

pub loop-row-preserved : goal.loop-row-preserved
loop-row-preserved c = search or-more

pub loop-target-init : goal.loop-target-init
loop-target-init c = search or-zero

pub loop-target-preserved : goal.loop-target-preserved
loop-target-preserved c = search or-more

pub returns : goal.returns
returns c = zero-gathered _ _ _ _ _ _ c.loop-row.invariant c.loop-target.invariant (omega arith) (omega arith)
