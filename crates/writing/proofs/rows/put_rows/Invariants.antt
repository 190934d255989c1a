-- `rows::put_rows` meets its contract: the rows of the words that were passed are written.
use Rattle.writing.proofs.RowLaws.{Worded}
use Rattle.writing.proofs.rows.put_rows.Given as goal

abbrev pub invariant-loop-i : goal.invariant-loop-i
invariant-loop-i l = Worded l.vector l.initial.out l.out l.start l.at l.i
