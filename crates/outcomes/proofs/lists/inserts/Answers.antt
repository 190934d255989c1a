-- `lists::inserts` meets its contract: the count is that of the first i entries.
use Rattle.std.proofs.Common.{arith}
use Rattle.outcomes.proofs.ListLaws.{counted_none, counted-new, counted-row, counted-all}
use Rattle.outcomes.proofs.lists.inserts.Goals as goal
use Rattle.outcomes.proofs.lists.inserts.Goals.{then-s-i, else-s-i}

pub loop-i-init : goal.loop-i-init
loop-i-init c = (omega arith, search counted_none)

pub loop-i-preserved : goal.loop-i-preserved
loop-i-preserved c =
    elim c.if-s-i.branch [ then-s-i w ↦ (omega arith, search counted-new) | else-s-i w ↦ (omega arith, search counted-row) ]

pub returns : goal.returns
returns c = search counted-all
