-- The laws of a test that holds of each number below n.
use mathlib.Core.Path.{◌≡◌, refl, ap, ap₂, ◌∙◌}
use mathlib.Core.Bool.{Bool, true, false, ◌&&◌, and-eq-true_iff}
use mathlib.Core.Logic.{◌⊎◌, inl, inr}
use Prim.Native.Nat.{ℕ, zero, suc, ◌+◌, ◌<◌}
use native.Mathlib.Omega.{arith}
use native.Mathlib.Numerals.{add-one}
use native.Mathlib.Nat.{not-suc-le-zero, eq-or-lt_of_le, le_of_suc-le-suc, lt-suc_self}
use Rattle.bits.specs.All.{all_below}

module _ (p : ℕ → Bool) where
  pub all-at : (n : ℕ) → all_below p n ≡ true → (i : ℕ) → i < n → p i ≡ true
  unfolding all_below
  all-at zero e i h = absurd (not-suc-le-zero h)
  all-at (suc n) e i h = go (eq-or-lt_of_le (le_of_suc-le-suc h)) (all-at n ((and-eq-true_iff (all_below p n) (p n)).0 e).0 i)
    where
      go : (i ≡ n) ⊎ (i < n) → (i < n → p i ≡ true) → p i ≡ true
      go (inl s) ih = ap p s ∙ ((and-eq-true_iff (all_below p n) (p n)).0 e).1
      go (inr l) ih = ih l

  pub all_of : (n : ℕ) → ((i : ℕ) → i < n → p i ≡ true) → all_below p n ≡ true
  unfolding all_below
  all_of zero h = refl
  all_of (suc n) h = (and-eq-true_iff (all_below p n) (p n)).1 (all_of n (λ i l. h i (omega arith)), h n (lt-suc_self n))

  pub all_none : all_below p 0 ≡ true
  unfolding all_below
  all_none = refl

  pub all_more : (n : ℕ) → all_below p (n + 1) ≡ all_below p n && p n
  unfolding all_below
  all_more n = ap (all_below p) (add-one n)

pub all-ext : (p q : ℕ → Bool) (n : ℕ) → ((i : ℕ) → i < n → p i ≡ q i) → all_below p n ≡ all_below q n
unfolding all_below
all-ext p q zero h = refl
all-ext p q (suc n) h = ap₂ (λ (x y : Bool). x && y) (all-ext p q n (λ i l. h i (omega arith))) (h n (lt-suc_self n))

-- two tests at once
pub all-and : (p q : ℕ → Bool) (n : ℕ) → all_below (λ i. p i && q i) n ≡ all_below p n && all_below q n
unfolding all_below
all-and p q zero = refl
all-and p q (suc n) = ap (λ (t : Bool). t && (p n && q n)) (all-and p q n) ∙ mix (all_below p n) (all_below q n) (p n) (q n)
  where
    mix : (a b x y : Bool) → a && b && (x && y) ≡ a && x && (b && y)
    mix true true x y = refl
    mix true false true y = refl
    mix true false false y = refl
    mix false b x y = refl
