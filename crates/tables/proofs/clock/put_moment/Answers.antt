-- `put_moment` meets its contract: two stores.
use mathlib.Core.Path.{refl}
use Rattle.tables.specs.Stores.{put_moment}
use native.Mathlib.Omega.{arith}
use lib.ListN.{length-set}
use Rattle.tables.proofs.clock.put_moment.Goals as goal

pub returns : goal.returns
unfolding put_moment
returns c = refl

pub bounds-clock-3 : goal.bounds-clock-3
bounds-clock-3 c = simp length-set (omega arith)
