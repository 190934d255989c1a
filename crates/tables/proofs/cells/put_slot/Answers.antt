-- `put_slot` meets its contract: three stores.
use mathlib.Core.Path.{refl}
use native.Mathlib.Omega.{arith}
use lib.ListN.{length-set}
use Rattle.tables.specs.Stores.{put_slot}
use Rattle.tables.proofs.cells.put_slot.Goals as goal

pub returns : goal.returns
unfolding put_slot
returns c = refl

pub bounds-slots-i-2 : goal.bounds-slots-i-2
bounds-slots-i-2 c = simp length-set (omega arith)

pub bounds-slots-i-3 : goal.bounds-slots-i-3
bounds-slots-i-3 c = simp length-set (omega arith)
