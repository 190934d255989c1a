-- `tidy::touched` meets its contract: what is asked of all the changes is asked of those from p on.
use Rattle.tidying.specs.Tidy.{touched_in}
use mathlib.Core.Path.{◌≡◌}
use Rattle.tidying.proofs.tidy.touched.Given as goal

abbrev pub invariant-loop-p : goal.invariant-loop-p
invariant-loop-p l = touched_in l.changes l.from l.to l.moved l.v.0 ≡ touched_in l.changes l.p l.to l.moved l.v.0
