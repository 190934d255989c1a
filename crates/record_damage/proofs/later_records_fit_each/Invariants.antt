-- `later_records_fit_each` meets its contract: a fold; the whole is what was found so far and the rest.
use mathlib.Core.Path.{◌≡◌}
use mathlib.Core.Bool.{◌&&◌}
use Rattle.tables.specs.Damage.{all_in, record_fits}
use Rattle.record_damage.proofs.later_records_fit_each.Given as goal

abbrev pub invariant-loop-k : goal.invariant-loop-k
invariant-loop-k l = all_in (record_fits 0 l.log) 1 l.n ≡ l.ok && all_in (record_fits 0 l.log) l.k l.n
