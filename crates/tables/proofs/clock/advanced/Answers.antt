-- `advanced` meets its contract.
use mathlib.Core.Path.{refl}
use Rattle.tables.specs.Clock.{later}
use Rattle.tables.proofs.clock.advanced.Goals as goal

pub returns : goal.returns
unfolding later
returns c = refl
