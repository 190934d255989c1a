-- `vectors::words::count` meets its contract: the rows that are set are those of each word.
use mathlib.Core.Path.{◌≡◌, refl, ap, ◌∙◌, sym}
use mathlib.Core.List.{List}
use Prim.Native.Nat.{ℕ, ◌+◌, ◌*◌, ◌≤◌, zero, suc}
use native.Mathlib.Omega.{arith}
use native.Mathlib.Numerals.{add-one}
use borrow.Author.Rules.{rules}
use lib.Count.{ones}
use lib.ListN.{length, get_or, take}
use lib.Seq.{take-length}
use Rattle.std.specs.List.{sum_by}
use Rattle.std.proofs.lemmas.List.Sums.{sum_by_more}
use Rattle.bits.specs.Words.{bit_at, Words}
use Rattle.bits.specs.Rows.{count_below, count_of}
use Rattle.bits.proofs.RowLaws.{count_word}
use Rattle.vectors.proofs.words.count.Goals as goal

-- the rows of the first n words
front : (ws : List ℕ) → Words ws → (n : ℕ) → n ≤ length ws → sum_by ones (take n ws) ≡ count_below (bit_at ws) (n * 64)
unfolding count_below
front ws w zero h = refl
front ws w (suc n) h =
    ap (λ (k : ℕ). sum_by ones (take k ws)) (sym (add-one n)) ∙ sum_by_more ones ws n 0 h
    ∙ ap (λ (x : ℕ). x + ones (get_or ws n 0)) (front ws w n (omega arith)) ∙ sym (count_word ws n w)
    ∙ ap (λ (k : ℕ). count_below (bit_at ws) (k * 64)) (add-one n)

pub returns : goal.returns
unfolding count_of
returns c =
    let ws = c.args.ws.now in
    let summed : c.sum.result ≡ sum_by ones ws = search rules in
    summed ∙ ap (sum_by ones) (sym (take-length ws)) ∙ front ws (λ i. (c.type_inv.ws i).fits) (length ws) (omega arith)
