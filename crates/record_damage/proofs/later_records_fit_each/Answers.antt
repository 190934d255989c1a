-- `later_records_fit_each` meets its contract: a fold; the whole is what was found so far and the rest.
use Rattle.tables.proofs.Fold.{fold-again, fold_end}
use Rattle.record_damage.proofs.later_records_fit_each.Goals as goal

pub loop-k-preserved : goal.loop-k-preserved
loop-k-preserved c = search fold-again

pub returns : goal.returns
returns c = search fold_end
