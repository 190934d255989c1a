-- `history::slot_words` meets its contract.
use Rattle.history.proofs.QueryLaws.{slot-part}
use Rattle.history.proofs.vector.slot_words.Goals as goal

pub returns : goal.returns
returns c = search slot-part
