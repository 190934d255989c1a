-- `text::words::is` meets its contract.
use Rattle.text.proofs.WordLaws.{same-is}
use Rattle.text.proofs.words.is.Goals as goal

pub returns : goal.returns
returns c = same-is _ _ _ c.same.ensures
