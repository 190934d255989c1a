-- What is left of the loop frees what is left to free.
use Rattle.std.proofs.Common.{◌≡◌, ◌-◌}
use Rattle.lent.specs.Places.{freed_from}
use Rattle.lent.proofs.sessions.free_all.Given as goal

abbrev pub invariant-loop-n : goal.invariant-loop-n
invariant-loop-n l = freed_from l.t l.n (16 - l.n) ≡ freed_from l.initial.t 0 16
