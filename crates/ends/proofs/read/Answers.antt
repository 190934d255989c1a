-- `read` meets its contract: a read that failed gave no byte.
use Rattle.ends.proofs.EndsLaws.{got_none}
use Rattle.ends.proofs.read.Goals as goal

pub returns : goal.returns
returns c = got_none _ c.loop.invariant
