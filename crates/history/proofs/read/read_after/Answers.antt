-- `history::read_after` meets its contract. The invariant: no value so far has the row.
use Rattle.history.proofs.ReadLaws.{read-start, read_here, read_past}
use Rattle.history.proofs.read.read_after.Goals as goal

pub loop-v-init : goal.loop-v-init
loop-v-init c = search read-start

pub returns-then-row_has : goal.returns-then-row_has
returns-then-row_has c = search read_here

pub loop-v-preserved : goal.loop-v-preserved
loop-v-preserved c = search read_past
