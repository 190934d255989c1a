-- `text::cells::all_turned` meets its contract: a fold.
use Rattle.std.proofs.Common.{arith}
use Rattle.text.proofs.ShortLaws.{turned_none, turned_more, turned-all}
use Rattle.text.proofs.cells.all_turned.Goals as goal

pub loop-j-init : goal.loop-j-init
loop-j-init c = turned_none _ _

pub loop-j-preserved : goal.loop-j-preserved
loop-j-preserved c = turned_more _ _ _ _ _ c.loop-j.invariant c.turned-ok.ensures

pub returns : goal.returns
returns c = turned-all _ _ _ _ _ c.loop-j.invariant (omega arith)
