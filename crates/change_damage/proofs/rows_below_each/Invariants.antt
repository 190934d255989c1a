-- `rows_below_each` meets its contract: a fold; the whole is what was found so far and the rest.
use mathlib.Core.Path.{◌≡◌}
use mathlib.Core.Bool.{◌&&◌}
use Rattle.tables.specs.Damage.{all_in}
use Rattle.change_damage.specs.Parts.{row_below}
use Rattle.change_damage.proofs.rows_below_each.Given as goal

abbrev pub invariant-loop-p : goal.invariant-loop-p
invariant-loop-p l = all_in (row_below l.changes l.rows.0) l.from l.to ≡ l.ok && all_in (row_below l.changes l.rows.0) l.p l.to
