-- `text::cells::long_cell` meets its contract.
use Rattle.text.proofs.CellLaws.{cell-dash, cell-small}
use Rattle.text.proofs.cells.long_cell.Goals as goal

pub returns-then-dash_at : goal.returns-then-dash_at
returns-then-dash_at c = search cell-dash

pub returns : goal.returns
returns c = search cell-small
