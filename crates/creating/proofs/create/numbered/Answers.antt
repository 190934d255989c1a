-- `create::numbered` meets its contract: the cells before i are done.
use Rattle.std.proofs.Common.{arith}
use Rattle.bits.proofs.TabLaws.{filled_none}
use Rattle.creating.proofs.CreateLaws.{number_more, zero_more, numbered-to}
use Rattle.creating.proofs.create.numbered.Goals as goal
use Rattle.creating.proofs.create.numbered.Goals.{then-i-c, else-i-c}

pub loop-i-init : goal.loop-i-init
loop-i-init c = search filled_none

pub returns : goal.returns
returns c = search numbered-to

pub loop-i-preserved : goal.loop-i-preserved
loop-i-preserved c =
    elim c.if-i-c.branch [
      | then-i-c w ↦ number_more _ _ _ _ c.loop-i.invariant _ (omega arith) w.cells-is w.if-i-c.true
      | else-i-c w ↦ zero_more _ _ _ _ c.loop-i.invariant _ (omega arith) w.cells-is w.if-i-c.false
    ]
