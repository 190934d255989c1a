-- `text::cells::turned` meets its contract.
use Rattle.text.proofs.ShortLaws.{turned-space, turned-cell}
use Rattle.text.proofs.cells.turned.Goals as goal

pub returns-then-a-eq32 : goal.returns-then-a-eq32
returns-then-a-eq32 c = search turned-space

pub returns-else-a-eq32 : goal.returns-else-a-eq32
returns-else-a-eq32 c = search turned-cell
