-- The laws of the bits of many words in one: it is 0 exactly if each of them is; and of the loop that gathers them.
use mathlib.Core.Path.{◌≡◌, refl, sym, ap, ap₂, ◌∙◌}
use mathlib.Core.Bool.{Bool, ◌&&◌, and-eq-true_iff}
use Prim.Native.Nat.{ℕ, zero, suc, ◌+◌, ◌-◌, ◌/◌, ◌^◌, ◌≤◌}
use native.Mathlib.Omega.{arith}
use native.Mathlib.Numerals.{add-one}
use native.Mathlib.Nat.{zero-div}
use borrow.Author.Tests.{eqb-true, eq-eqb}
use lib.Bits.{bit_or, and_le_l, and_le_r, or_add_and, or_shr}
use lib.Dec.{eqb}
use Rattle.bits.proofs.Cases.{same_truth}
use Rattle.bits.specs.All.{all_below}
use Rattle.bits.specs.OrWords.{or_below, or_from}

or-none : (a b : ℕ) → eqb (bit_or a b) 0 ≡ eqb a 0 && eqb b 0
or-none a b =
    same_truth (eqb (bit_or a b) 0) (eqb a 0 && eqb b 0)
    (λ e. let z : bit_or a b ≡ 0 = eqb-true (bit_or a b) 0 e in
    (and-eq-true_iff (eqb a 0) (eqb b 0)).1
    (eq-eqb a 0 (omega (arith, or_add_and a b, and_le_r a b)), eq-eqb b 0 (omega (arith, or_add_and a b, and_le_l a b))))
    (λ e. eq-eqb (bit_or a b) 0
    (ap₂ bit_or (eqb-true a 0 ((and-eq-true_iff (eqb a 0) (eqb b 0)).0 e).0)
    (eqb-true b 0 ((and-eq-true_iff (eqb a 0) (eqb b 0)).0 e).1)))

module _ (g : ℕ → ℕ) where
  pub or-zero : 0 ≡ or_below g 0
  unfolding or_below
  or-zero = refl

  pub or-more : (n a : ℕ) → a ≡ or_below g n → bit_or a (g n) ≡ or_below g (n + 1)
  unfolding or_below
  or-more n a e = ap (λ (x : ℕ). bit_or x (g n)) e ∙ ap (or_below g) (sym (add-one n))

  -- no bit is left above k exactly if none is in each word
  pub or-clear : (n k : ℕ) → eqb (or_below g n / 2 ^ k) 0 ≡ all_below (λ i. eqb (g i / 2 ^ k) 0) n
  unfolding or_below all_below
  or-clear zero k = eq-eqb (0 / 2 ^ k) 0 (zero-div (2 ^ k))
  or-clear (suc n) k =
      ap (λ (x : ℕ). eqb x 0) (or_shr (or_below g n) (g n) k) ∙ or-none (or_below g n / 2 ^ k) (g n / 2 ^ k)
      ∙ ap (λ (t : Bool). t && eqb (g n / 2 ^ k) 0) (or-clear n k)

  pub or-all : (n : ℕ) → eqb (or_below g n) 0 ≡ all_below (λ i. eqb (g i) 0) n
  unfolding or_below all_below
  or-all zero = refl
  or-all (suc n) = or-none (or_below g n) (g n) ∙ ap (λ (t : Bool). t && eqb (g n) 0) (or-all n)

  pub from-none : (from : ℕ) → 0 ≡ or_from g from from
  unfolding or_from or_below
  from-none from = let e : 0 ≡ from - from = omega arith in ap (or_below (λ k. g (from + k))) e

  pub from_more : (from i a : ℕ) → from ≤ i → a ≡ or_from g from i → bit_or a (g i) ≡ or_from g from (i + 1)
  unfolding or_from or_below
  from_more from i a h q =
      let e : from + (i - from) ≡ i = omega arith in
      let f : suc (i - from) ≡ i + 1 - from = omega arith in
      ap₂ (λ (x j : ℕ). bit_or x (g j)) q (sym e) ∙ ap (or_below (λ k. g (from + k))) f

pub from_all : (g : ℕ → ℕ) (from n : ℕ) → eqb (or_from g from n) 0 ≡ all_below (λ k. eqb (g (from + k)) 0) (n - from)
unfolding or_from
from_all g from n = or-all (λ k. g (from + k)) (n - from)
