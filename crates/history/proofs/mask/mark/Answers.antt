-- `history::mark` meets its contract.
use Rattle.history.proofs.LastLaws.{mark-is}
use Rattle.history.proofs.mask.mark.Goals as goal

pub returns : goal.returns
returns c = search mark-is
