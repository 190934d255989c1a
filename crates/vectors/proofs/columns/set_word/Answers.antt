-- `vectors::columns::set_word` meets its contract. The invariant: the rows of the values below v are set.
use Prim.Native.Nat.{◌/◌}
use native.Mathlib.Omega.{arith}
use borrow.Author.Rules.{rules}
use Rattle.bits.specs.Column.{in_word}
use Rattle.bits.proofs.ColumnLaws.{grown-none, vector-more, vectors-end}
use Rattle.vectors.proofs.columns.set_word.Goals as goal

pub loop-v-init : goal.loop-v-init
loop-v-init c =
    let s = c.args in
    let fits = c.type_inv.words in
    grown-none (λ q. q / 2048) (in_word s.col.now s.i) s.words.now (λ i. (fits i).fits)

pub loop-v-preserved : goal.loop-v-preserved
loop-v-preserved c = search (rules, vector-more)

pub returns : goal.returns
returns c =
    let s = c.args in
    let l = c.loop-v in
    vectors-end s.col.now s.i (omega arith) s.words.now l.words l.v l.invariant (omega arith)
