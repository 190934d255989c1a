-- The answer so far is that of the places passed.
use Rattle.std.proofs.Common.{◌≡◌}
use Rattle.lent.proofs.PlaceLaws.{fit_below}
use Rattle.lent.proofs.sessions.all_fit.Given as goal

abbrev pub invariant-loop-i : goal.invariant-loop-i
invariant-loop-i l = l.ok ≡ fit_below l.t l.log l.c l.i
