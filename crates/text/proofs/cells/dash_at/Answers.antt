-- `text::cells::dash_at` meets its contract.
use Rattle.text.proofs.CellLaws.{dash-none, dash-other, dash-last, dash-yes, dash-no}
use Rattle.text.proofs.cells.dash_at.Goals as goal

pub returns-then-line-at : goal.returns-then-line-at
returns-then-line-at c = search dash-none

pub returns-then-line-at-ne45 : goal.returns-then-line-at-ne45
returns-then-line-at-ne45 c = search dash-other

pub returns-then-line-at-2 : goal.returns-then-line-at-2
returns-then-line-at-2 c = search dash-last

pub returns-then-line-at-eq32 : goal.returns-then-line-at-eq32
returns-then-line-at-eq32 c = search dash-yes

pub returns : goal.returns
returns c = search dash-no
