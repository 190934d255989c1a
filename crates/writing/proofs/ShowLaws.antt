-- Laws of numbers in decimal and of what an answer shows.
use mathlib.Core.Path.{◌≡◌, refl, ap, ◌∙◌}
use mathlib.Core.List.{List, [], ◌∷◌, ◌++◌, append_assoc, append-nil}
use mathlib.Core.Logic.{◌⊎◌, inl, inr}
use Prim.Native.Nat.{ℕ, zero, suc, ◌+◌, ◌*◌, ◌/◌, ◌%◌, ◌^◌, ◌<◌, ◌≤◌}
use native.Mathlib.Nat.{pow-suc}
use native.Mathlib.Omega.{arith}
use borrow.Author.Tests.{lt-ltb, le-ltb}
use lib.Dec.{ltb}
use lib.ListN.{length, length-append}
use Rattle.bits.proofs.Cases.{lt-cases}
use Rattle.rules.specs.Calls.{ok}
use Rattle.text.specs.Show.{decimal_by, decimal, spaced, show}
use Rattle.writing.specs.Wrote.{two_digits, four_digits, field_of}

-- ---- a digit, and a number with one digit more

more-digits : (j k n : ℕ) → n ≤ j → n ≤ k → decimal_by j (ltb n 10) n ≡ decimal_by k (ltb n 10) n
unfolding decimal_by
more-digits zero zero n h g = refl
more-digits zero (suc k) n h g = let e : n ≡ 0 = omega arith in rw e
more-digits (suc j) zero n h g = let e : n ≡ 0 = omega arith in rw e
more-digits (suc j) (suc k) n h g = go (lt-cases n 10) (more-digits j k (n / 10))
  where
    go : (n < 10) ⊎ (10 ≤ n) → (n / 10 ≤ j → n / 10 ≤ k → decimal_by j (ltb (n / 10) 10) (n / 10) ≡ decimal_by k (ltb (n / 10) 10) (n / 10))
        → decimal_by (suc j) (ltb n 10) n ≡ decimal_by (suc k) (ltb n 10) n
    go (inl l) r = rw (lt-ltb n 10 l)
    go (inr l) r = rw (le-ltb n 10 l, r (omega arith) (omega arith))

pub decimal_digit : (n : ℕ) → n < 10 → decimal n ≡ (48 + n) ∷ []
unfolding decimal decimal_by
decimal_digit zero h = refl
decimal_digit (suc k) h = rw (lt-ltb (suc k) 10 h)

pub decimal-more : (n : ℕ) → 10 ≤ n → decimal n ≡ decimal (n / 10) ++ ((48 + n % 10) ∷ [])
unfolding decimal decimal_by
decimal-more zero h = absurd (omega arith)
decimal-more (suc k) h = rw (le-ltb (suc k) 10 h, more-digits k (suc k / 10) (suc k / 10) (omega arith) (omega arith))

-- a number below 10 ^ k has at most k digits
pub decimal-fits : (k n : ℕ) → n < 10 ^ suc k → length (decimal n) ≤ suc k
decimal-fits zero n h = let e : length (decimal n) ≡ 1 = ap length (decimal_digit n h) in omega arith
decimal-fits (suc k) n h = go (lt-cases n 10) (decimal-fits k (n / 10) (shorter (rw (pow-suc 10 (suc k)) at h)))
  where
    shorter : n < 10 ^ suc k * 10 → n / 10 < 10 ^ suc k
    shorter l = omega arith

    go : (n < 10) ⊎ (10 ≤ n) → length (decimal (n / 10)) ≤ suc k → length (decimal n) ≤ suc (suc k)
    go (inl l) r = let e : length (decimal n) ≡ 1 = ap length (decimal_digit n l) in omega arith
    go (inr l) r =
        omega (arith, ap length (decimal-more n l), length-append (decimal (n / 10)) ((48 + n % 10) ∷ []))

-- ---- two digits, three, four, and four more

module _ (n : ℕ) where
  pub decimal-2 : 10 ≤ n → n < 100 → decimal n ≡ two_digits n
  decimal-2 l h = rw (decimal-more n l, decimal_digit (n / 10) (omega arith))

  pub decimal-3 : 100 ≤ n → n < 1000 → decimal n ≡ (48 + n / 100) ∷ two_digits (n % 100)
  decimal-3 l h =
      let a : n / 10 / 10 ≡ n / 100 = omega arith in
      let b : n / 10 % 10 ≡ n % 100 / 10 = omega arith in
      let c : n % 10 ≡ n % 100 % 10 = omega arith in
      rw (decimal-more n (omega arith), decimal-more (n / 10) (omega arith), decimal_digit (n / 10 / 10) (omega arith), a, b, c)

  four-more : (l : List ℕ)
      → (((l ++ ((48 + n / 10 / 10 / 10 % 10) ∷ [])) ++ ((48 + n / 10 / 10 % 10) ∷ [])) ++ ((48 + n / 10 % 10) ∷ []))
      ++ ((48 + n % 10) ∷ []) ≡ l ++ four_digits (n % 10000)
  four-more l =
      let a : n / 10 / 10 / 10 % 10 ≡ n % 10000 / 100 / 10 = omega arith in
      let b : n / 10 / 10 % 10 ≡ n % 10000 / 100 % 10 = omega arith in
      let c : n / 10 % 10 ≡ n % 10000 % 100 / 10 = omega arith in
      let d : n % 10 ≡ n % 10000 % 100 % 10 = omega arith in
      rw (a, b, c, d) (simp append_assoc)

  -- the last three digits
  three-last : 1000 ≤ n
      → decimal n ≡ ((decimal (n / 10 / 10 / 10) ++ ((48 + n / 10 / 10 % 10) ∷ [])) ++ ((48 + n / 10 % 10) ∷ [])) ++ ((48 + n % 10) ∷ [])
  three-last l = rw (decimal-more n (omega arith), decimal-more (n / 10) (omega arith), decimal-more (n / 10 / 10) (omega arith))

  pub decimal-large : 10000 ≤ n → decimal n ≡ decimal (n / 10000) ++ four_digits (n % 10000)
  decimal-large l =
      let e : n / 10 / 10 / 10 / 10 ≡ n / 10000 = omega arith in
      three-last (omega arith) ∙ rw (decimal-more (n / 10 / 10 / 10) (omega arith), e) (four-more (decimal (n / 10000)))

  pub decimal-4 : 1000 ≤ n → n < 10000 → decimal n ≡ four_digits n
  decimal-4 l h =
      let e : n / 10 / 10 / 10 ≡ n / 10 / 10 / 10 % 10 = omega arith in
      let m : n % 10000 ≡ n = omega arith in
      three-last l ∙ rw (decimal_digit (n / 10 / 10 / 10) (omega arith))
      (ap (λ (k : ℕ). ((((48 + k) ∷ []) ++ ((48 + n / 10 / 10 % 10) ∷ [])) ++ ((48 + n / 10 % 10) ∷ [])) ++ ((48 + n % 10) ∷ [])) e
      ∙ four-more [] ∙ ap four_digits m)

-- ---- numbers after spaces

pub spaced-append : (ns ms : List ℕ) → spaced (ns ++ ms) ≡ spaced ns ++ spaced ms
unfolding spaced
spaced-append [] ms = refl
spaced-append (n ∷ ns) ms = rw (spaced-append ns ms, append_assoc)

pub spaced-one : (n : ℕ) → spaced (n ∷ []) ≡ field_of n
unfolding spaced
spaced-one n = rw (append-nil (decimal n))

pub ok-append : (ns ms : List ℕ) → show (ok ns) ++ spaced ms ≡ show (ok (ns ++ ms))
unfolding show
ok-append ns ms = rw (spaced-append ns ms)
