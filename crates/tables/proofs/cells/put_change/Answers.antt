-- `put_change` meets its contract: two stores.
use mathlib.Core.Path.{refl}
use native.Mathlib.Omega.{arith}
use lib.ListN.{length-set}
use Rattle.tables.specs.Stores.{put_change}
use Rattle.tables.proofs.cells.put_change.Goals as goal

pub returns : goal.returns
unfolding put_change
returns c = refl

pub bounds-changes-p-2 : goal.bounds-changes-p-2
bounds-changes-p-2 c = simp length-set (omega arith)
