-- `vectors::words::zero_from` meets its contract: a fold goes on with the next word.
use mathlib.Core.Path.{◌≡◌, refl, sym, ap, ap₂, ◌∙◌}
use mathlib.Core.List.{List}
use Prim.Native.Nat.{ℕ, zero, suc, ◌+◌, ◌-◌, ◌≤◌}
use native.Mathlib.Omega.{arith}
use native.Mathlib.Numerals.{add-one}
use borrow.Author.Rules.{rules}
use lib.Bits.{bit_or}
use lib.Dec.{eqb}
use lib.ListN.{length, get_or, take, drop, length-drop}
use lib.Seq.{get_or-drop}
use Rattle.std.specs.List.{fold}
use Rattle.std.proofs.lemmas.List.Sums.{fold_more}
use Rattle.bits.specs.OrWords.{or_below}
use Rattle.bits.specs.Tail.{zeros_from}
use Rattle.bits.proofs.OrLaws.{or-all}
use Rattle.vectors.proofs.words.zero_from.Goals as goal

-- the first n words from `from` on
front : (ws : List ℕ) (from n : ℕ) → n ≤ length (drop from ws)
    → fold bit_or 0 (take n (drop from ws)) ≡ or_below (λ k. get_or ws (from + k) 0) n
unfolding or_below
front ws from zero h = refl
front ws from (suc n) h =
    ap (λ (k : ℕ). fold bit_or 0 (take k (drop from ws))) (sym (add-one n)) ∙ fold_more bit_or 0 (drop from ws) n 0 h
    ∙ ap₂ bit_or (front ws from n (omega arith)) (get_or-drop from ws n 0)

pub returns : goal.returns
unfolding zeros_from
returns c =
    let ws = c.args.ws.now in
    let from = c.args.from in
    let n = length ws - from in
    let folded : c.fold.result ≡ fold bit_or 0 (take n (drop from ws)) = search rules in
    ap (λ (x : ℕ). eqb x 0) (folded ∙ front ws from n (omega (arith, length-drop from ws))) ∙ or-all (λ (k : ℕ). get_or ws (from + k) 0) n
