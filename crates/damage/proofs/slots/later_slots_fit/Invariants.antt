-- `later_slots_fit` meets its contract: a scan; the whole is the rest from here on.
use mathlib.Core.Path.{◌≡◌}
use Rattle.tables.specs.Damage.{all_in, later_slot_fits}
use Rattle.damage.proofs.slots.later_slots_fit.Given as goal

abbrev pub invariant-loop-i : goal.invariant-loop-i
invariant-loop-i l =
    all_in (later_slot_fits l.values.0 l.last.0 l.slots) l.values.0 l.used ≡ all_in (later_slot_fits l.values.0 l.last.0 l.slots) l.i l.used
