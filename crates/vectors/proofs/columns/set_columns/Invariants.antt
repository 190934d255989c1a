-- `vectors::columns::set_columns` meets its contract. The invariant: the rows of the words before i are set.
use Prim.Native.Nat.{◌/◌, ◌%◌}
use Rattle.bits.specs.Column.{column_bit}
use Rattle.bits.proofs.ColumnLaws.{Grown}
use Rattle.vectors.proofs.columns.set_columns.Given as goal

abbrev pub invariant-loop-i : goal.invariant-loop-i
invariant-loop-i l = Grown (λ q. q % 2048 / 64) (column_bit l.col) l.initial.words l.words l.i
