-- The laws of a test that holds of some number.
use mathlib.Core.Path.{◌≡◌, refl, sym, ap, ap₂, ◌∙◌}
use mathlib.Core.Bool.{Bool, true, false, ◌||◌, false≢true}
use mathlib.Core.Logic.{◌⊎◌, inl, inr}
use Prim.Native.Nat.{ℕ, zero, suc, ◌+◌, ◌-◌, ◌≤◌, ◌<◌}
use native.Mathlib.Omega.{arith}
use native.Mathlib.Nat.{not-suc-le-zero, eq-or-lt_of_le, le_of_suc-le-suc, lt-suc_self}
use Rattle.std.proofs.lemmas.Bool.{or_left, or_right, or_cases}
use Rattle.bits.specs.Any.{any_below, any_from}

module _ (p : ℕ → Bool) where
  -- a number that the test holds of
  below_at : (n : ℕ) → any_below p n ≡ true → (k : ℕ) × (k < n) × (p k ≡ true)
  unfolding any_below
  below_at zero e = absurd (false≢true e)
  below_at (suc n) e = go (or_cases (any_below p n) (p n) e) (below_at n)
    where
      go : (any_below p n ≡ true) ⊎ (p n ≡ true) → (any_below p n ≡ true → (k : ℕ) × (k < n) × (p k ≡ true))
          → (k : ℕ) × (k < suc n) × (p k ≡ true)
      go (inl h) ih = let f = ih h in (f.0, omega (arith, f.1), f.2)
      go (inr h) ih = (n, lt-suc_self n, h)

  below_of : (n k : ℕ) → k < n → p k ≡ true → any_below p n ≡ true
  unfolding any_below
  below_of zero k l e = absurd (not-suc-le-zero l)
  below_of (suc n) k l e = go (eq-or-lt_of_le (le_of_suc-le-suc l)) (λ h. below_of n k h e)
    where
      go : (k ≡ n) ⊎ (k < n) → (k < n → any_below p n ≡ true) → any_below p n || p n ≡ true
      go (inl h) ih = or_right (any_below p n) (p n) (ap p (sym h) ∙ e)
      go (inr h) ih = or_left (any_below p n) (p n) (ih h)

below-ext : (p q : ℕ → Bool) (n : ℕ) → ((k : ℕ) → k < n → p k ≡ q k) → any_below p n ≡ any_below q n
unfolding any_below
below-ext p q zero h = refl
below-ext p q (suc n) h = ap₂ (λ (x y : Bool). x || y) (below-ext p q n (λ i l. h i (omega arith))) (h n (lt-suc_self n))

module _ (p : ℕ → Bool) where
  -- the test holds exactly if there is such a number
  pub any_at : (a b : ℕ) → any_from p a b ≡ true → (k : ℕ) × (a ≤ k) × (k < b) × (p k ≡ true)
  unfolding any_from
  any_at a b e = let f = below_at (λ k. p (a + k)) (b - a) e in (a + f.0, omega arith, omega (arith, f.1), f.2)

  pub any_of : (a b k : ℕ) → a ≤ k → k < b → p k ≡ true → any_from p a b ≡ true
  unfolding any_from
  any_of a b k h l e =
      let s : a + (k - a) ≡ k = omega arith in
      below_of (λ i. p (a + i)) (b - a) (k - a) (omega arith) (ap p s ∙ e)

  -- of none, of one more, of one alone
  pub any_none : (a : ℕ) → any_from p a a ≡ false
  unfolding any_from any_below
  any_none a = let e : a - a ≡ 0 = omega arith in ap (any_below (λ k. p (a + k))) e

  pub any-more : (a b : ℕ) → a ≤ b → any_from p a (suc b) ≡ any_from p a b || p b
  unfolding any_from any_below
  any-more a b h =
      let e : suc b - a ≡ suc (b - a) = omega arith in
      let s : a + (b - a) ≡ b = omega arith in
      ap (any_below (λ k. p (a + k))) e ∙ ap (λ (k : ℕ). any_below (λ i. p (a + i)) (b - a) || p k) s

  pub any-one : (a : ℕ) → any_from p a (suc a) ≡ p a
  any-one a = any-more a a (omega arith) ∙ ap (λ (x : Bool). x || p a) (any_none a)

-- two tests that agree on the numbers from a on and below b
pub any-ext : (p q : ℕ → Bool) (a b : ℕ) → ((k : ℕ) → a ≤ k → k < b → p k ≡ q k) → any_from p a b ≡ any_from q a b
unfolding any_from
any-ext p q a b h = below-ext (λ k. p (a + k)) (λ k. q (a + k)) (b - a) (λ k l. h (a + k) (omega arith) (omega arith))
