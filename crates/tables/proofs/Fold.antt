-- A test at every place of a stretch, as the loops meet it: the whole is what was found so far and the rest from here on.
use mathlib.Core.Path.{◌≡◌, sym, ap, ◌∙◌}
use mathlib.Core.Bool.{Bool, true, false, not, ◌&&◌, ◌||◌, and-true, and_assoc}
use mathlib.Core.Logic.{◌⊎◌, inl, inr}
use Prim.Native.Nat.{ℕ, zero, suc, ◌+◌, ◌-◌, ◌≤◌, ◌<◌}
use native.Mathlib.Omega.{arith}
use native.Mathlib.Nat.{zero-add}
use borrow.Author.Tests.{not-true, not-false, ne_eqb}
use lib.Dec.{eqb}
use Rattle.bits.specs.All.{all_below}
use Rattle.bits.proofs.AllLaws.{all_none, all-ext}
use Rattle.bits.proofs.Cases.{lt-cases, same_truth}
use Rattle.tables.specs.Damage.{all_in}
use Rattle.tables.proofs.Tests.{both, and_both}
use Rattle.tables.proofs.Facts.{in-at, in-of}

module _ (p : ℕ → Bool) where
  pub in-none : (a b : ℕ) → b ≤ a → all_in p a b ≡ true
  unfolding all_in all_below
  in-none a b h = let z : b - a ≡ 0 = omega arith in ap (all_below (λ k. p (a + k))) z

  -- every place below n is every place from 0 on
  pub below_in : (n : ℕ) → all_below p n ≡ all_in p 0 n
  unfolding all_in
  below_in n =
      let z : n - 0 ≡ n = omega arith in all-ext p (λ k. p (0 + k)) n (λ i l. ap p (sym (zero-add i)))
      ∙ ap (all_below (λ k. p (0 + k))) (sym z)

  -- a stretch cut in two
  pub in-join : (a b c : ℕ) → a ≤ b → b ≤ c → all_in p a c ≡ all_in p a b && all_in p b c
  in-join a b c h l =
      same_truth (all_in p a c) (all_in p a b && all_in p b c)
      (λ e. and_both (all_in p a b) (all_in p b c) (in-of p a b (λ j m n. in-at p a c e j m (omega arith)))
      (in-of p b c (λ j m n. in-at p a c e j (omega arith) n)))
      (λ e. in-of p a c
      (λ j m n. side j m n (both (all_in p a b) (all_in p b c) e).0 (both (all_in p a b) (all_in p b c) e).1 (lt-cases j b)))
    where
      side : (j : ℕ) → a ≤ j → j < c → all_in p a b ≡ true → all_in p b c ≡ true → (j < b) ⊎ (b ≤ j) → p j ≡ true
      side j m n x y (inl k) = in-at p a b x j m k
      side j m n x y (inr k) = in-at p b c y j k n

  pub in_one : (a : ℕ) → all_in p a (a + 1) ≡ p a
  in_one a =
      same_truth (all_in p a (a + 1)) (p a) (λ e. in-at p a (a + 1) e a (omega arith) (omega arith))
      (λ e. in-of p a (a + 1) (λ j m n. let z : j ≡ a = omega arith in ap p z ∙ e))

  -- the place in front and the rest
  pub in-front : (a b : ℕ) → a < b → all_in p a b ≡ p a && all_in p (a + 1) b
  in-front a b h = in-join a (a + 1) b (omega arith) (omega arith) ∙ ap (λ (t : Bool). t && all_in p (a + 1) b) (in_one a)

  -- the first place and the later ones
  pub below-front : (n : ℕ) → all_below p n ≡ (eqb n 0 || p 0) && all_in p 1 n
  below-front zero = all_none p ∙ sym (in-none 1 0 (omega arith))
  below-front (suc n) =
      below_in (suc n) ∙ in-front 0 (suc n) (omega arith)
      ∙ ap (λ (t : Bool). (t || p 0) && all_in p 1 (suc n)) (sym (ne_eqb (suc n) 0 (λ e. omega arith)))

  -- ---- a fold that carries what it found so far

  pub fold-again : (w ok t : Bool) (j n : ℕ) → w ≡ ok && all_in p j n → j < n → t ≡ p j → w ≡ ok && t && all_in p (j + 1) n
  fold-again w ok t j n e h q =
      e ∙ ap (λ (x : Bool). ok && x) (in-front j n h) ∙ sym (and_assoc ok (p j) (all_in p (j + 1) n))
      ∙ ap (λ (x : Bool). ok && x && all_in p (j + 1) n) (sym q)

  pub fold_end : (w ok : Bool) (j n : ℕ) → w ≡ ok && all_in p j n → n ≤ j → ok ≡ w
  fold_end w ok j n e h = sym (e ∙ ap (λ (x : Bool). ok && x) (in-none j n h) ∙ and-true ok)

  -- ---- a scan that stops at the first place that fails

  pub scan-again : (w t : Bool) (j n : ℕ) → w ≡ all_in p j n → j < n → t ≡ p j → not t ≡ false → w ≡ all_in p (j + 1) n
  scan-again w t j n e h q m = e ∙ in-front j n h ∙ ap (λ (x : Bool). x && all_in p (j + 1) n) (sym q ∙ not-false t m)

  pub scan-fails : (w t : Bool) (j n : ℕ) → w ≡ all_in p j n → j < n → t ≡ p j → not t ≡ true → false ≡ w
  scan-fails w t j n e h q m = sym (e ∙ in-front j n h ∙ ap (λ (x : Bool). x && all_in p (j + 1) n) (sym q ∙ not-true t m))

  pub scan-end : (w : Bool) (j n : ℕ) → w ≡ all_in p j n → n ≤ j → true ≡ w
  scan-end w j n e h = sym (e ∙ in-none j n h)

pub in-ext : (p q : ℕ → Bool) (a b : ℕ) → ((j : ℕ) → a ≤ j → j < b → p j ≡ q j) → all_in p a b ≡ all_in q a b
unfolding all_in
in-ext p q a b h = all-ext (λ k. p (a + k)) (λ k. q (a + k)) (b - a) (λ k l. h (a + k) (omega arith) (omega arith))
