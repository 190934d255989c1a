-- `vectors::words::zero_in_all` meets its contract. The invariant: `all` is the OR of the words from `from` on of the first i vectors.
use mathlib.Core.Path.{◌≡◌, ap, ◌∙◌}
use Prim.Native.Nat.{ℕ}
use native.Mathlib.Omega.{arith}
use lib.Bits.{bit_or}
use lib.Dec.{eqb}
use Rattle.bits.specs.OrWords.{or_below}
use Rattle.bits.proofs.OrLaws.{or-zero, or-more, or-all}
use Rattle.bits.specs.Vectors.{rest_of, zeros_of_all}
use Rattle.vectors.proofs.words.zero_in_all.Goals as goal

pub loop-i-init : goal.loop-i-init
loop-i-init c = search or-zero

pub loop-i-preserved : goal.loop-i-preserved
loop-i-preserved c =
    let s = c.args in
    let l = c.loop-i in
    ap (bit_or l.all) c.rest_of-all.ensures ∙ or-more (rest_of s.words.now s.from) l.i l.all l.invariant

pub returns : goal.returns
unfolding zeros_of_all
returns c =
    let s = c.args in
    let e : c.loop-i.i ≡ s.n = omega arith in
    ap (λ (x : ℕ). eqb x 0) (c.loop-i.invariant ∙ ap (or_below (rest_of s.words.now s.from)) e)
    ∙ or-all (rest_of s.words.now s.from) s.n
