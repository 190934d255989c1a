-- `vectors::words::copy` meets its contract. The invariant: the words before i are those of `src`.
use lib.ListN.{get_or}
use Rattle.bits.proofs.TabLaws.{Filled}
use Rattle.vectors.proofs.words.copy.Given as goal

abbrev pub invariant-loop-i : goal.invariant-loop-i
invariant-loop-i l = Filled (λ j. get_or l.src j 0) l.initial.dst l.dst l.i
