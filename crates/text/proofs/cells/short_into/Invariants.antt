-- `text::cells::short_into` meets its contract: what is stored and counted, and what is still to come, is the whole.
use Rattle.std.proofs.Common.{◌≡◌, ◌+◌, ◌-◌, ◌*◌, ◌/◌, ◌≤◌, length}
use Rattle.text.specs.Cells.{Filling}
use Rattle.text.proofs.cells.short_into.Given as goal

abbrev pub invariant-loop-k : goal.invariant-loop-k
invariant-loop-k l = (l.k ≤ l.m) × (l.m ≡ (length l.line - l.start) / 2) × Filling l.line l.start 0 l.initial.column l.column (l.start + 2 * l.k) l.k

abbrev pub decreases-loop-k : goal.decreases-loop-k
decreases-loop-k l = l.m - l.k
