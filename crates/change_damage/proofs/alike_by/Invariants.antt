-- `alike_by` meets its contract: a search; the record that it stands at has the row count of the first.
use Prim.Native.Nat.{◌-◌}
use Rattle.change_damage.specs.Parts.{Alike}
use Rattle.change_damage.proofs.alike_by.Given as goal

abbrev pub invariant-loop-e : goal.invariant-loop-e
invariant-loop-e l = Alike l.log l.k l.e l.n

abbrev pub decreases-loop-e : goal.decreases-loop-e
decreases-loop-e l = l.n - l.e
