-- `vectors::columns::set_word` meets its contract. The invariant: the rows of the values below v are set.
use Prim.Native.Nat.{◌/◌}
use Rattle.bits.specs.Column.{in_word}
use Rattle.bits.proofs.ColumnLaws.{Grown}
use Rattle.vectors.proofs.columns.set_word.Given as goal

abbrev pub invariant-loop-v : goal.invariant-loop-v
invariant-loop-v l = Grown (λ q. q / 2048) (in_word l.col l.i) l.initial.words l.words l.v
