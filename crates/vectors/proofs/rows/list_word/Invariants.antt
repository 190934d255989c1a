-- `vectors::rows::list_word` meets its contract: what is stored of the rows, and what is still to come, is the whole.
use lib.ListN.{length}
use Rattle.bits.specs.Rows.{word_rows}
use Rattle.bits.proofs.WordRows.{Listing}
use Rattle.vectors.proofs.rows.list_word.Given as goal

abbrev pub invariant-loop-x : goal.invariant-loop-x
invariant-loop-x l = Listing l.initial.list l.list l.start l.at l.word l.base l.x

abbrev pub decreases-loop-x : goal.decreases-loop-x
decreases-loop-x l = length (word_rows l.x l.base)
