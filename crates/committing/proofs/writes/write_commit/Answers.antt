-- `writes::write_commit` meets its contract: the record, and the clock one stamp later.
use borrow.Author.Rules.{rules}
use Rattle.tables.specs.Clock.{clock_in, later}
use Rattle.tables.specs.Stores.{put_moment, put_changes_used}
use Rattle.committing.proofs.writes.write_commit.Goals as goal

pub returns : goal.returns
unfolding clock_in later put_moment put_changes_used
returns c = search rules
