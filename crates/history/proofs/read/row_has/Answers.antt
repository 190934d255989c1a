-- `history::row_has` meets its contract.
use Rattle.history.proofs.ReadLaws.{has-is}
use Rattle.history.proofs.read.row_has.Goals as goal

pub returns : goal.returns
returns c = search has-is
