-- `writes::write_rows` meets its contract: the rows among the first i entries are stored.
use mathlib.Core.Path.{◌≡◌}
use Prim.Native.Nat.{◌+◌, ◌≤◌}
use lib.ListN.{length}
use Rattle.tables.specs.Cells.{values_in}
use Rattle.committing.specs.Commit.{new_cells, RowsStored}
use Rattle.committing.proofs.writes.write_rows.Given as goal

abbrev pub invariant-loop-i : goal.invariant-loop-i
invariant-loop-i l =
    (length l.changes ≡ length l.initial.changes) × (l.p ≤ l.from + l.i)
    × RowsStored (new_cells l.slots l.words l.heads l.log l.initial.changes (values_in l.clock) l.s.start.0)
    l.s l.from l.initial.changes l.changes l.i l.p
