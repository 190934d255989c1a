-- `vectors::words::xor_into` meets its contract. The invariant: the words before i are those of `xor_words`.
use mathlib.Core.Path.{refl, ap, ◌∙◌, sym}
use native.Mathlib.Omega.{arith}
use Rattle.bits.specs.Words.{xor_words, xor_at}
use Rattle.bits.specs.Tab.{tab}
use Rattle.bits.proofs.TabLaws.{filled_none, filled_more, filled-all}
use Rattle.vectors.proofs.words.xor_into.Goals as goal

pub loop-i-init : goal.loop-i-init
loop-i-init c = search filled_none

pub loop-i-preserved : goal.loop-i-preserved
loop-i-preserved c = filled_more _ c.loop-i.invariant (omega arith) refl

pub returns : goal.returns
unfolding xor_words
returns c =
    let word = xor_at c.args.a.now c.args.mask.now in
    filled-all word c.loop-i.invariant (omega arith) ∙ ap (tab word) (sym c.requires.0)
