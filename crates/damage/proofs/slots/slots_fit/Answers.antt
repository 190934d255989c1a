-- `slots_fit` meets its contract: the slots below C and the later ones.
use native.Mathlib.Omega.{arith}
use Rattle.tables.proofs.ClockLaws.{low-first-slots, low-slots}
use Rattle.damage.proofs.SlotLaws.{all_slots}
use Rattle.damage.proofs.slots.slots_fit.Goals as goal

pub first_slots_fit-requires : goal.first_slots_fit-requires
first_slots_fit-requires c = (search low-first-slots, omega arith)

pub later_slots_fit-requires : goal.later_slots_fit-requires
later_slots_fit-requires c = (search low-slots, omega arith)

pub returns : goal.returns
returns c = search all_slots
