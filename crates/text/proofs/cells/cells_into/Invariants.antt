-- `text::cells::cells_into` meets its contract: what is stored and counted, and what is still to come, is the whole.
use Rattle.std.proofs.Common.{◌-◌, length}
use Rattle.text.specs.Cells.{Filling}
use Rattle.text.proofs.cells.cells_into.Given as goal

abbrev pub invariant-loop-at : goal.invariant-loop-at
invariant-loop-at l = Filling l.line l.start 0 l.initial.column l.column l.at l.n

abbrev pub decreases-loop-at : goal.decreases-loop-at
decreases-loop-at l = length l.line - l.at
