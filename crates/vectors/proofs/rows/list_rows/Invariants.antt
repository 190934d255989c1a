-- `vectors::rows::list_rows` meets its contract: the rows of the words that were passed are listed.
use Rattle.bits.proofs.WordRows.{Listed}
use Rattle.vectors.proofs.rows.list_rows.Given as goal

abbrev pub invariant-loop-i : goal.invariant-loop-i
invariant-loop-i l = Listed l.ws l.initial.list l.list l.at l.i
