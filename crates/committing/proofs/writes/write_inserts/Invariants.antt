-- `writes::write_inserts` meets its contract: the inserts among the first i entries are stored.
use mathlib.Core.Path.{◌≡◌}
use Prim.Native.Nat.{◌+◌, ◌≤◌}
use lib.ListN.{length}
use Rattle.committing.specs.Commit.{InsertsStored}
use Rattle.committing.proofs.writes.write_inserts.Given as goal

abbrev pub invariant-loop-i : goal.invariant-loop-i
invariant-loop-i l =
    (length l.changes ≡ length l.initial.changes) × (l.p ≤ l.from + l.i)
    × InsertsStored l.s l.from l.initial.row.0 l.initial.changes l.changes l.i l.p l.row.0
