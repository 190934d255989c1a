-- `list_fits` meets its contract: a fold; the whole is what was found so far and the rest.
use Rattle.session_damage.specs.Parts.{listed}
use Rattle.tables.proofs.Fold.{below_in, fold-again, fold_end}
use Rattle.session_damage.proofs.list_fits.Goals as goal

pub loop-i-preserved : goal.loop-i-preserved
unfolding listed
loop-i-preserved c = search fold-again

pub loop-i-init : goal.loop-i-init
loop-i-init c = search below_in

pub returns : goal.returns
returns c = search fold_end
