-- `each_rows_fit` meets its contract: a scan by stretches; the whole is the rest from here on.
use mathlib.Core.Path.{refl}
use native.Mathlib.Omega.{arith}
use Rattle.tables.proofs.Fold.{below_in, scan-end}
use Rattle.change_damage.proofs.ChangeLaws.{none_passed, passed-below, passed-more, stretch-again, stretch-fails}
use Rattle.change_damage.proofs.ChangeLaws.{stretch-order, stretch-low, stretch-ends}
use Rattle.change_damage.proofs.each_rows_fit.Goals as goal

pub rows_below-requires : goal.rows_below-requires
rows_below-requires c = (search stretch-order, search stretch-low, omega arith, search passed-below)

pub loop-k-init : goal.loop-k-init
loop-k-init c = (refl, search below_in, search none_passed)

pub returns-then-not-rows_below : goal.returns-then-not-rows_below
returns-then-not-rows_below c = search stretch-fails

pub loop-k-preserved : goal.loop-k-preserved
loop-k-preserved c = (search stretch-ends, search stretch-again, search passed-more)

pub returns : goal.returns
returns c = search scan-end
