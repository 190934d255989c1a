-- `history::version_of` meets its contract.
use Rattle.history.proofs.VersionLaws.{seen-is, seen_low}
use Rattle.history.proofs.chain.version_of.Goals as goal

pub returns : goal.returns
returns c = (search seen_low, search seen-is)
