-- `create::numbered` meets its contract: the cells before i are done.
use Rattle.bits.proofs.TabLaws.{Filled}
use Rattle.outcomes.specs.Calls.{below}
use Rattle.creating.proofs.create.numbered.Given as goal

abbrev pub invariant-loop-i : goal.invariant-loop-i
invariant-loop-i l = Filled (below l.c) l.initial.cells l.cells l.i
