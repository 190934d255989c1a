-- `clock_of` meets its contract: four cells.
use mathlib.Core.Path.{refl}
use Rattle.tables.specs.Clock.{clock_in}
use Rattle.tables.proofs.clock.clock_of.Goals as goal

pub returns : goal.returns
unfolding clock_in
returns c = refl
