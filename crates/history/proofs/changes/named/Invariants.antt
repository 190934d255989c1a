-- No change so far names the row.
use Rattle.std.proofs.Common.{◌≡◌, false}
use Rattle.rules.specs.Log.{names}
use Rattle.tables.specs.Meaning.{change_at}
use Rattle.tables.specs.Stretch.{stretch}
use Rattle.history.proofs.changes.named.Given as goal

abbrev pub invariant-loop-p : goal.invariant-loop-p
invariant-loop-p l = false ≡ names (stretch (change_at l.changes) l.initial.p l.p) l.row.0
