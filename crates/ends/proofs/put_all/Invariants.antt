-- `put_all` meets its contract: at the loop's head, the system has taken the bytes before the rest.
use Rattle.ends.proofs.EndsLaws.{Putting}
use Rattle.ends.proofs.put_all.Given as goal

abbrev pub invariant-loop : goal.invariant-loop
invariant-loop l = Putting l.bytes l.rest l.initial.watch l.watch
