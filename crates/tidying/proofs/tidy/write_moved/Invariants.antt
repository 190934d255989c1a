-- `tidy::write_moved` meets its contract: the rows of the words before i are put.
use Prim.Native.Nat.{◌*◌}
use Rattle.bits.specs.Rows.{rows_below}
use Rattle.bits.specs.Words.{bit_at}
use Rattle.tidying.specs.Tidy.{RowsPut}
use Rattle.tidying.proofs.tidy.write_moved.Given as goal

abbrev pub invariant-loop-i : goal.invariant-loop-i
invariant-loop-i l = RowsPut (rows_below (bit_at l.moved) (l.i * 64)) l.from l.to l.v.0 l.initial.changes l.changes l.p
