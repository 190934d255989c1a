-- `vectors::words::merge` meets its contract. The invariant: the words before i are those of `merged_words`.
use lib.Bits.{bit_or}
use lib.ListN.{get_or}
use Rattle.bits.specs.Words.{xor_at}
use Rattle.bits.proofs.TabLaws.{Filled}
use Rattle.vectors.proofs.words.merge.Given as goal

abbrev pub invariant-loop-i : goal.invariant-loop-i
invariant-loop-i l = Filled (λ j. bit_or (get_or l.initial.dst j 0) (xor_at l.a l.mask j)) l.initial.dst l.dst l.i
