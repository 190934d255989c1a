-- `list_fits` meets its contract: a fold; the whole is what was found so far and the rest.
use mathlib.Core.Path.{◌≡◌}
use mathlib.Core.Bool.{◌&&◌}
use Rattle.bits.specs.All.{all_below}
use Rattle.tables.specs.Damage.{all_in}
use Rattle.session_damage.specs.Parts.{listed}
use Rattle.session_damage.proofs.list_fits.Given as goal

abbrev pub invariant-loop-i : goal.invariant-loop-i
invariant-loop-i l = all_below (listed l.c l.below l.at l.to) l.n ≡ l.ok && all_in (listed l.c l.below l.at l.to) l.i l.n
