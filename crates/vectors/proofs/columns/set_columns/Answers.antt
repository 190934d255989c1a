-- `vectors::columns::set_columns` meets its contract. The invariant: the rows of the words before i are set.
use Prim.Native.Nat.{◌/◌, ◌%◌}
use native.Mathlib.Omega.{arith}
use Rattle.bits.specs.Column.{column_bit}
use Rattle.bits.proofs.ColumnLaws.{grown-none, word_more, words-end}
use Rattle.vectors.proofs.columns.set_columns.Goals as goal

pub loop-i-init : goal.loop-i-init
loop-i-init c =
    let s = c.args in
    let fits = c.type_inv.words in
    grown-none (λ q. q % 2048 / 64) (column_bit s.col.now) s.words.now (λ i. (fits i).fits)

pub loop-i-preserved : goal.loop-i-preserved
loop-i-preserved c = search word_more

pub returns : goal.returns
returns c =
    let s = c.args in
    let l = c.loop-i in
    words-end s.col.now s.words.now l.words l.i l.invariant (omega arith)
