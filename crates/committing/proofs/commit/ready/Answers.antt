-- `commit::ready` meets its contract: the row count after the inserts is small.
use Rattle.committing.proofs.CommitTests.{ready-rows-few}
use Rattle.committing.proofs.commit.ready.Goals as goal

pub overflow_add-c : goal.overflow_add-c
overflow_add-c c = search ready-rows-few
