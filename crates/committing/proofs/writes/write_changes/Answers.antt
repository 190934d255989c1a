-- `writes::write_changes` meets its contract: the rows, and after them the inserts.
use Rattle.committing.proofs.CommitWork.{work-clock, work-rows, work-inserts, work-changes}
use Rattle.committing.proofs.writes.write_changes.Goals as goal

pub clock_of-c-requires : goal.clock_of-c-requires
clock_of-c-requires c = search work-clock

pub changes_used-from-requires : goal.changes_used-from-requires
changes_used-from-requires c = search work-clock

pub write_rows-p-requires : goal.write_rows-p-requires
write_rows-p-requires c = search work-rows

pub write_inserts-requires : goal.write_inserts-requires
write_inserts-requires c = search work-inserts

pub returns : goal.returns
returns c = search work-changes
