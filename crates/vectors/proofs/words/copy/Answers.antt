-- `vectors::words::copy` meets its contract. The invariant: the words before i are those of `src`.
use mathlib.Core.List.{List}
use mathlib.Core.Path.{refl, ap, ◌∙◌, sym}
use Prim.Native.Nat.{ℕ}
use native.Mathlib.Omega.{arith}
use lib.ListN.{get_or}
use Rattle.bits.specs.Tab.{tab}
use Rattle.bits.proofs.TabLaws.{tab-self, filled_none, filled_more, filled-all}
use Rattle.vectors.proofs.words.copy.Goals as goal

pub loop-i-init : goal.loop-i-init
loop-i-init c = search filled_none

pub loop-i-preserved : goal.loop-i-preserved
loop-i-preserved c = filled_more _ c.loop-i.invariant (omega arith) refl

pub returns : goal.returns
returns c =
    let src : List ℕ = c.args.src.now in
    let word : ℕ → ℕ = λ k. get_or src k 0 in
    filled-all word c.loop-i.invariant (omega arith) ∙ ap (tab word) (sym c.requires) ∙ tab-self src 0
