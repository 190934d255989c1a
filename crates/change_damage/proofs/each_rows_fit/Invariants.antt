-- `each_rows_fit` meets its contract: a scan by stretches; the whole is the rest from here on.
use mathlib.Core.Path.{◌≡◌}
use Prim.Native.Nat.{◌-◌}
use Rattle.bits.specs.All.{all_below}
use Rattle.tables.specs.Cells.{end_at}
use Rattle.tables.specs.Damage.{all_in}
use Rattle.change_damage.specs.Parts.{record_rows_fit}
use Rattle.change_damage.proofs.ChangeLaws.{Passed}
use Rattle.change_damage.proofs.each_rows_fit.Given as goal

abbrev pub invariant-loop-k : goal.invariant-loop-k
invariant-loop-k l = (l.from ≡ end_at l.log l.k) × (all_below (record_rows_fit l.log l.changes) l.n ≡ all_in (record_rows_fit l.log l.changes) l.k l.n) × Passed l.log l.changes l.from l.k l.n

abbrev pub decreases-loop-k : goal.decreases-loop-k
decreases-loop-k l = l.n - l.k
