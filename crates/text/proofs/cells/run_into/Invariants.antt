-- `text::cells::run_into` meets its contract: what is stored and counted, and what is still to come, is the whole.
use Rattle.std.proofs.Common.{◌-◌, ◌<◌, length}
use Rattle.text.specs.Cells.{Filling}
use Rattle.text.proofs.cells.run_into.Given as goal

abbrev pub invariant-loop-at : goal.invariant-loop-at
invariant-loop-at l = (l.at < length l.line) × Filling l.line l.start l.k l.initial.column l.column l.at l.n

abbrev pub decreases-loop-at : goal.decreases-loop-at
decreases-loop-at l = length l.line - l.at
