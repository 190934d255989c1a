-- `lists::spot_of` meets its contract: no entry so far has the row.
use Rattle.std.proofs.Common.{refl}
use Rattle.outcomes.proofs.ListLaws.{spot-start, spot-here, spot_past, spot-none}
use Rattle.outcomes.proofs.lists.spot_of.Goals as goal

pub loop-i-init : goal.loop-i-init
loop-i-init c = search spot-start

pub loop-i-preserved : goal.loop-i-preserved
loop-i-preserved c = search spot_past

pub returns : goal.returns
returns c = search spot-none

pub returns-then-from-row : goal.returns-then-from-row
returns-then-from-row c = spot-here c.args.s c.args.row.0 c.loop-i.i c.loop-i.invariant c.args.s.count _ refl c.loop-i-test.true c.from.ensures c.if-from-row.true
