-- `vectors::words::word_of_all` meets its contract. The invariant: `all` is the OR of word j of the first i vectors.
use mathlib.Core.Path.{◌≡◌, ap, ◌∙◌}
use Prim.Native.Nat.{◌+◌, ◌*◌}
use native.Mathlib.Omega.{arith}
use lib.ListN.{get_or}
use Rattle.bits.specs.OrWords.{or_below}
use Rattle.bits.proofs.OrLaws.{or-zero, or-more}
use Rattle.bits.specs.Vectors.{word_of_all}
use Rattle.vectors.proofs.words.word_of_all.Goals as goal

pub loop-i-init : goal.loop-i-init
loop-i-init c = search or-zero

pub loop-i-preserved : goal.loop-i-preserved
loop-i-preserved c = search or-more

pub returns : goal.returns
unfolding word_of_all
returns c =
    let s = c.args in
    let e : c.loop-i.i ≡ s.n = omega arith in
    c.loop-i.invariant ∙ ap (or_below (λ k. get_or s.words.now (32 * k + s.j) 0)) e
