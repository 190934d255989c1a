-- `rows_below_each` meets its contract: a fold; the whole is what was found so far and the rest.
use Rattle.change_damage.specs.Parts.{row_below}
use Rattle.tables.proofs.Fold.{fold-again, fold_end}
use Rattle.change_damage.proofs.rows_below_each.Goals as goal

pub loop-p-preserved : goal.loop-p-preserved
unfolding row_below
loop-p-preserved c = search fold-again

pub returns : goal.returns
returns c = search fold_end
