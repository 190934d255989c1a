-- `conflict::row_named` meets its contract: a fold; the whole is what was found so far and the rest.
use mathlib.Core.Path.{◌≡◌}
use mathlib.Core.Bool.{◌||◌}
use Rattle.rules.specs.Log.{names}
use Rattle.tables.specs.Meaning.{change_at}
use Rattle.tables.specs.Stretch.{stretch}
use Rattle.conflict.proofs.row_named.Given as goal

abbrev pub invariant-loop-p : goal.invariant-loop-p
invariant-loop-p l = names (stretch (change_at l.changes) l.initial.p l.to) l.row ≡ l.any || names (stretch
    (change_at l.changes) l.p l.to) l.row
