-- `gathered` meets its contract: a fold over the halves.
use Rattle.change_damage.proofs.GatherLaws.{pairs-none, pairs-more, all-gathered}
use Rattle.change_damage.proofs.gathered.Goals as goal

pub loop-p-init : goal.loop-p-init
loop-p-init c = search pairs-none

pub loop-p-preserved : goal.loop-p-preserved
loop-p-preserved c = search pairs-more

pub returns : goal.returns
returns c = search all-gathered
