-- `history::block_names` meets its contract. The invariant: what the changes so far name.
use mathlib.Core.Path.{◌≡◌}
use Prim.Native.Nat.{◌+◌}
use Rattle.rules.specs.Log.{names}
use Rattle.tables.specs.Meaning.{change_at}
use Rattle.tables.specs.Stretch.{stretch}
use Rattle.history.proofs.changes.block_names.Given as goal

abbrev pub invariant-loop-c : goal.invariant-loop-c
invariant-loop-c l = l.found ≡ names (stretch (change_at l.fn.changes) l.fn.from (l.fn.from + l.c-index)) l.row
