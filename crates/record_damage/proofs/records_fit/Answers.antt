-- `records_fit` meets its contract: record 1, the later ones, and where the last one ends.
use native.Mathlib.Omega.{arith}
use Rattle.tables.proofs.ClockLaws.{low-stamp, low-records}
use Rattle.record_damage.proofs.RecordLaws.{all-records}
use Rattle.record_damage.proofs.records_fit.Goals as goal

pub end_at-requires : goal.end_at-requires
end_at-requires c = (search low-stamp, omega arith)

pub rows_at-requires : goal.rows_at-requires
rows_at-requires c = (search low-stamp, omega arith)

pub later_records_fit-requires : goal.later_records_fit-requires
later_records_fit-requires c = (search low-records, omega arith)

pub returns : goal.returns
returns c = search all-records
