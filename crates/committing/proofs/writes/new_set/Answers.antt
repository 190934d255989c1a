-- `writes::new_set` meets its contract: the set at the start, its read and its target toggled.
use Rattle.committing.proofs.WriteLaws.{new_is}
use Rattle.committing.proofs.writes.new_set.Goals as goal

pub returns : goal.returns
returns c = search new_is
