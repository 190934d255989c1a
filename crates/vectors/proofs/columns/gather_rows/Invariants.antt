-- `vectors::columns::gather_rows` meets its contract. The invariant is what it needs, with k for `from`.
use Rattle.bits.specs.Column.{Gatherable}
use Rattle.vectors.proofs.columns.gather_rows.Given as goal

abbrev pub invariant-loop-k : goal.invariant-loop-k
invariant-loop-k l = Gatherable l.own l.col l.i l.k l.to
