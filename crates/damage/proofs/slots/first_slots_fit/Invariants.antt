-- `first_slots_fit` meets its contract: a fold; the whole is what was found so far and the rest.
use mathlib.Core.Path.{◌≡◌}
use mathlib.Core.Bool.{◌&&◌}
use Rattle.bits.specs.All.{all_below}
use Rattle.tables.specs.Damage.{all_in, first_slot_fits}
use Rattle.damage.proofs.slots.first_slots_fit.Given as goal

abbrev pub invariant-loop-i : goal.invariant-loop-i
invariant-loop-i l = all_below (first_slot_fits l.slots) l.n ≡ l.ok && all_in (first_slot_fits l.slots) l.i l.n
