-- `vectors::words::tails_clear` meets its contract. From row 2,048 on there is nothing to test; else `tails-words` takes the one
-- word of all vectors and those after it together, and where the one word has a row the rest is not looked at.
use mathlib.Core.Path.{sym, ap, ap₂, ◌∙◌}
use mathlib.Core.Bool.{Bool, ◌&&◌}
use Prim.Native.Nat.{ℕ, ◌+◌, ◌/◌, ◌%◌, ◌^◌}
use native.Mathlib.Omega.{arith}
use borrow.Author.Tests.{eq-eqb, ne_eqb}
use lib.Dec.{eqb}
use Rattle.bits.specs.Vectors.{zeros_of_all}
use Rattle.bits.proofs.VectorLaws.{tails-past, tails-words}
use Rattle.vectors.proofs.words.tails_clear.Goals as goal

pub returns-then-j-ge32 : goal.returns-then-j-ge32
returns-then-j-ge32 c =
    let s = c.args in
    sym (tails-past s.words.now s.n s.row (λ i. (c.type_inv.words i).fits) (omega arith) (omega arith))

pub returns-then-word_of_all-row-ne0 : goal.returns-then-word_of_all-row-ne0
returns-then-word_of_all-row-ne0 c =
    let s = c.args in
    ap (λ (t : Bool). t && zeros_of_all s.words.now s.n (s.row / 64 + 1))
    (sym (ne_eqb (c.word_of_all.result / 2 ^ (s.row % 64)) 0 c.if-word_of_all-row-ne0.true)
    ∙ ap (λ (w : ℕ). eqb (w / 2 ^ (s.row % 64)) 0) c.word_of_all.ensures)
    ∙ tails-words s.words.now s.n s.row (λ i. (c.type_inv.words i).fits) (omega arith)
    (omega arith)

pub returns : goal.returns
returns c =
    let s = c.args in
    ap₂ (λ (t z : Bool). t && z)
    (sym (eq-eqb (c.word_of_all.result / 2 ^ (s.row % 64)) 0 c.if-word_of_all-row-ne0.false)
    ∙ ap (λ (w : ℕ). eqb (w / 2 ^ (s.row % 64)) 0) c.word_of_all.ensures)
    c.zero_in_all.ensures
    ∙ tails-words s.words.now s.n s.row (λ i. (c.type_inv.words i).fits) (omega arith)
    (omega arith)
