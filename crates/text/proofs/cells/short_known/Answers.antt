-- `text::cells::short_known` meets its contract.
use Rattle.text.proofs.ShortLaws.{known_is}
use Rattle.text.proofs.cells.short_known.Goals as goal

pub returns : goal.returns
returns c = search known_is
