-- `change::standing` meets its contract: the row is listed, or its read decides.
use Rattle.listing.proofs.ChangeLaws.{stands-listed, stands-ready, stands_read}
use Rattle.listing.proofs.change.standing.Goals as goal

pub returns-then-spot-s : goal.returns-then-spot-s
returns-then-spot-s c = search stands-listed

pub read_at-requires : goal.read_at-requires
read_at-requires c = search stands-ready

pub returns : goal.returns
returns c = search stands_read
