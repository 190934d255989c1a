-- `clock_fits` meets its contract: the eight comparisons, in the order of the definition.
use mathlib.Core.Path.{refl}
use Rattle.rules.specs.Limits.{max_values, max_rows, max_slots, max_records, max_changes}
use Rattle.tables.specs.Damage.{clock_fits}
use Rattle.damage.proofs.clock.clock_fits.Goals as goal

pub returns : goal.returns
unfolding clock_fits max_values max_rows max_slots max_records max_changes
returns c = refl
