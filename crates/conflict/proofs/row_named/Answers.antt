-- `conflict::row_named` meets its contract: a fold; the whole is what was found so far and the rest.
use Rattle.conflict.proofs.ClashLaws.{row-again, row-end}
use Rattle.conflict.proofs.row_named.Goals as goal

pub loop-p-preserved : goal.loop-p-preserved
loop-p-preserved c = search row-again

pub returns : goal.returns
returns c = search row-end
