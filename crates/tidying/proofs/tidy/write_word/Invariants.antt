-- `tidy::write_word` meets its contract: what is put of the rows of the word, and what is still to come, is the whole.
use lib.ListN.{length}
use Rattle.bits.specs.Rows.{word_rows}
use Rattle.tidying.proofs.MovedLaws.{WordPut}
use Rattle.tidying.proofs.tidy.write_word.Given as goal

abbrev pub invariant-loop-x : goal.invariant-loop-x
invariant-loop-x l = WordPut l.to l.v.0 l.initial.changes l.changes l.start l.p l.word l.base l.x

abbrev pub decreases-loop-x : goal.decreases-loop-x
decreases-loop-x l = length (word_rows l.x l.base)
