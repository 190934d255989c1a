-- `Watch::fresh` meets its contract.
use mathlib.Core.Path.{refl}
use Rattle.ends.specs.Watch.{fresh}
use Rattle.ends.proofs.watch.Watch.fresh.Goals as goal

pub returns : goal.returns
unfolding fresh
returns c = refl
