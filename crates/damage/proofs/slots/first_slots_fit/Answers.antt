-- `first_slots_fit` meets its contract: a fold; the whole is what was found so far and the rest.
use Rattle.tables.proofs.Fold.{below_in, fold-again, fold_end}
use Rattle.damage.proofs.slots.first_slots_fit.Goals as goal

pub loop-i-init : goal.loop-i-init
loop-i-init c = search below_in

pub loop-i-preserved : goal.loop-i-preserved
loop-i-preserved c = search fold-again

pub returns : goal.returns
returns c = search fold_end
