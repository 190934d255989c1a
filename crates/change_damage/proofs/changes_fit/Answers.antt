-- `changes_fit` meets its contract: all sets at once, and the rows of each record.
use native.Mathlib.Omega.{arith}
use Rattle.tables.proofs.ClockLaws.{low-records, low-sets}
use Rattle.change_damage.proofs.ChangeLaws.{rising, bad-sets, each_rows}
use Rattle.change_damage.proofs.changes_fit.Goals as goal

pub each_rows_fit-requires : goal.each_rows_fit-requires
each_rows_fit-requires c = (search low-records, omega arith, omega arith, search rising)

pub gathered-requires : goal.gathered-requires
gathered-requires c = search low-sets

pub returns-else-all_below : goal.returns-else-all_below
returns-else-all_below c = search bad-sets

pub returns-then-all_below : goal.returns-then-all_below
returns-then-all_below c = search each_rows
