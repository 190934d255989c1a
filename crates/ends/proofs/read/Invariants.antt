-- `read` meets its contract: at the loop's head, no byte has gone by.
use mathlib.Core.Path.{◌≡◌}
use Rattle.ends.proofs.read.Given as goal

abbrev pub invariant-loop : goal.invariant-loop
invariant-loop l = l.watch ≡ l.initial.watch
