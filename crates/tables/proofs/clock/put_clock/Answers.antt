-- `put_clock` meets its contract: the six stores.
use mathlib.Core.Path.{refl}
use Rattle.tables.specs.Stores.{put_clock}
use native.Mathlib.Omega.{arith}
use lib.ListN.{length-set}
use Rattle.tables.proofs.clock.put_clock.Goals as goal

pub returns : goal.returns
unfolding put_clock
returns c = refl

pub bounds-clock-1 : goal.bounds-clock-1
bounds-clock-1 c = simp length-set (omega arith)

pub bounds-clock-2 : goal.bounds-clock-2
bounds-clock-2 c = simp length-set (omega arith)

pub bounds-clock-3 : goal.bounds-clock-3
bounds-clock-3 c = simp length-set (omega arith)

pub bounds-clock-4 : goal.bounds-clock-4
bounds-clock-4 c = simp length-set (omega arith)
