-- `history::flipped_since` meets its contract.
use Rattle.std.proofs.Common.{rules}
use Rattle.history.proofs.ReadLaws.{since-is}
use Rattle.history.proofs.read.flipped_since.Goals as goal

pub returns : goal.returns
returns c = since-is _ _ _ _ (search rules)
