-- `each_vector_fits` meets its contract: a scan; the whole is the rest from here on.
use mathlib.Core.Path.{◌≡◌}
use Rattle.tables.specs.Damage.{all_in, vector_fits}
use Rattle.damage.proofs.tails.each_vector_fits.Given as goal

abbrev pub invariant-loop-i : goal.invariant-loop-i
invariant-loop-i l = all_in (vector_fits l.first.0 l.log l.slots l.words) l.from l.n ≡ all_in (vector_fits l.first.0 l.log l.slots l.words) l.i l.n
