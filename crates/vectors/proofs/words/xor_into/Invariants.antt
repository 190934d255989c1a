-- `vectors::words::xor_into` meets its contract. The invariant: the words before i are those of `xor_words`.
use Rattle.bits.specs.Words.{xor_at}
use Rattle.bits.proofs.TabLaws.{Filled}
use Rattle.vectors.proofs.words.xor_into.Given as goal

abbrev pub invariant-loop-i : goal.invariant-loop-i
invariant-loop-i l = Filled (xor_at l.a l.mask) l.initial.dst l.dst l.i
