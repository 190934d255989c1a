-- `history::read_at` meets its contract.
use Rattle.history.proofs.ReadLaws.{read_is}
use Rattle.history.proofs.read.read_at.Goals as goal

pub returns : goal.returns
returns c = search read_is
