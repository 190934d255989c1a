-- `heads_fit` meets its contract: a scan; the whole is the rest from here on.
use mathlib.Core.Path.{refl}
use native.Mathlib.Omega.{arith}
use Rattle.tables.proofs.ClockLaws.{low_values, low-slots}
use Rattle.tables.proofs.Fold.{scan-again, scan-fails, scan-end}
use Rattle.damage.proofs.SlotLaws.{all-heads}
use Rattle.damage.proofs.slots.heads_fit.Goals as goal

pub loop-v-init : goal.loop-v-init
loop-v-init c = search all-heads

pub head_fits-requires : goal.head_fits-requires
head_fits-requires c = (omega (arith, low_values _ c.requires.3 _ refl), search low-slots, omega arith, omega arith)

pub returns-then-not-head_fits : goal.returns-then-not-head_fits
returns-then-not-head_fits c = search scan-fails

pub loop-v-preserved : goal.loop-v-preserved
loop-v-preserved c = search scan-again

pub returns : goal.returns
returns c = search scan-end
