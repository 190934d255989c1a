-- No row at or above a row count is set: the same as a test of words.
use mathlib.Core.Path.{◌≡◌, sym, ap, ◌∙◌}
use mathlib.Core.Bool.{Bool, true, false, not, ◌&&◌, ◌||◌, or-true, and-eq-true_iff}
use mathlib.Core.List.{List}
use mathlib.Core.Logic.{◌⊎◌, inl, inr, ⊎_elim}
use Prim.Native.Nat.{ℕ, ◌+◌, ◌-◌, ◌*◌, ◌/◌, ◌%◌, ◌^◌, ◌≤◌, ◌<◌}
use native.Mathlib.Omega.{arith}
use native.Mathlib.Nat.{lt_of_le_of_lt, div-one}
use borrow.Author.Tests.{eqb-true, eq-eqb, lt-ltb, le-ltb, not-true}
use lib.Dec.{eqb, ltb}
use lib.Pow.{shr_le}
use lib.ListN.{length, get_or, get_or-eq_default}
use Rattle.bits.proofs.Cases.{lt-cases, eq-cases, same_truth}
use Rattle.bits.specs.All.{all_below}
use Rattle.bits.proofs.AllLaws.{all-at, all_of}
use Rattle.bits.specs.Bit.{bit}
use Rattle.bits.proofs.BitLaws.{bit-shr, bit-none, bit-of-zero, bit-above}
use Rattle.bits.specs.Words.{bit_at, Words}
use Rattle.bits.proofs.WordLaws.{bit-of-word, bit_at-above}
use Rattle.bits.specs.Tail.{below_or_clear, tail_clear, zeros_from}

module _ (ws : List ℕ) (n : ℕ) where
  pub tail-bits : tail_clear ws n ≡ true → (r : ℕ) → n ≤ r → bit_at ws r ≡ false
  unfolding tail_clear
  tail-bits e r h =
      ⊎_elim
      (λ (l : r < length ws * 64). not-true (bit_at ws r) (ap (λ (t : Bool). t || not (bit_at ws r)) (sym (le-ltb r n h))
      ∙ all-at (below_or_clear ws n) (length ws * 64) e r l))
      (bit_at-above ws r) (lt-cases r (length ws * 64))

  pub tail-of-bits : ((r : ℕ) → n ≤ r → bit_at ws r ≡ false) → tail_clear ws n ≡ true
  unfolding tail_clear
  tail-of-bits h =
      all_of (below_or_clear ws n) (length ws * 64)
      (λ r l. ⊎_elim (λ (m : r < n). ap (λ (t : Bool). t || not (bit_at ws r)) (lt-ltb r n m))
      (λ (m : n ≤ r). ap (λ (t : Bool). ltb r n || not t) (h r m) ∙ or-true (ltb r n)) (lt-cases r n))

  -- past the words there is nothing to test
  pub tail-past : length ws ≤ n / 64 → tail_clear ws n ≡ true
  tail-past h = tail-of-bits (λ r l. bit_at-above ws r (omega arith))

module _ (ws : List ℕ) where
  -- a row of a word that has nothing left from a lower row on
  row-clear : (r s : ℕ) → get_or ws (r / 64) 0 / 2 ^ s ≡ 0 → s ≤ r % 64 → bit_at ws r ≡ false
  unfolding bit_at
  row-clear r s z l =
      let k : s + (r % 64 - s) ≡ r % 64 = omega arith in
      ap (bit (get_or ws (r / 64) 0)) (sym k) ∙ sym (bit-shr (get_or ws (r / 64) 0) s (r % 64 - s)) ∙ ap (λ (x : ℕ). bit x (r % 64 - s)) z
      ∙ bit-of-zero (r % 64 - s)

  -- a word of which no row from i * 64 + s on is set
  word-clear : Words ws → (i s : ℕ) → ((r : ℕ) → i * 64 + s ≤ r → bit_at ws r ≡ false) → get_or ws i 0 / 2 ^ s ≡ 0
  word-clear w i s h =
      bit-none 64 (get_or ws i 0 / 2 ^ s) (lt_of_le_of_lt (shr_le (get_or ws i 0) s) (w i))
      (λ k m. bit-shr (get_or ws i 0) s k
      ∙ ⊎_elim (λ (l : s + k < 64). sym (bit-of-word ws i (s + k) l) ∙ h (i * 64 + (s + k)) (omega arith))
      (bit-above 64 (get_or ws i 0) (s + k) (w i))
      (lt-cases (s + k) 64))

  pub tail-words : (n : ℕ) → Words ws → n / 64 < length ws
      → eqb (get_or ws (n / 64) 0 / 2 ^ (n % 64)) 0 && zeros_from ws (n / 64 + 1) ≡ tail_clear ws n
  unfolding zeros_from
  tail-words n w h =
      same_truth (first && later) (tail_clear ws n)
      (λ e. tail-of-bits ws n (λ r l. clear r l (eqb-true (get_or ws (n / 64) 0 / 2 ^ (n % 64)) 0 ((and-eq-true_iff first later).0 e).0)
      ((and-eq-true_iff first later).0 e).1))
      (λ e. let z : (r : ℕ) → n ≤ r → bit_at ws r ≡ false = tail-bits ws n e in
      (and-eq-true_iff first later).1 (
        eq-eqb (get_or ws (n / 64) 0 / 2 ^ (n % 64)) 0 (word-clear w (n / 64) (n % 64) (λ r l. z r (omega arith))),
        all_of zero? (length ws - (n / 64 + 1))
            (λ i l. eq-eqb (get_or ws (n / 64 + 1 + i) 0) 0 (sym (div-one (get_or ws (n / 64 + 1 + i) 0))
            ∙ word-clear w (n / 64 + 1 + i) 0 (λ r m. z r (omega arith)))),
      ))
    where
      zero? : ℕ → Bool
      zero? i = eqb (get_or ws (n / 64 + 1 + i) 0) 0

      first : Bool
      first = eqb (get_or ws (n / 64) 0 / 2 ^ (n % 64)) 0

      later : Bool
      later = all_below zero? (length ws - (n / 64 + 1))

      after : (i : ℕ) → n / 64 < i → later ≡ true → (i < length ws) ⊎ (length ws ≤ i) → get_or ws i 0 ≡ 0
      after i l a (inl m) =
          let k : n / 64 + 1 + (i - (n / 64 + 1)) ≡ i = omega arith in
          ap (λ (j : ℕ). get_or ws j 0) (sym k)
          ∙ eqb-true (get_or ws (n / 64 + 1 + (i - (n / 64 + 1))) 0) 0
          (all-at zero? (length ws - (n / 64 + 1)) a (i - (n / 64 + 1)) (omega arith))
      after i l a (inr m) = get_or-eq_default ws 0 m

      clear : (r : ℕ) → n ≤ r → get_or ws (n / 64) 0 / 2 ^ (n % 64) ≡ 0 → later ≡ true → bit_at ws r ≡ false
      clear r l z a =
          ⊎_elim (λ (e : r / 64 ≡ n / 64). row-clear r (n % 64) (ap (λ (i : ℕ). get_or ws i 0 / 2 ^ (n % 64)) e ∙ z) (omega arith))
          (λ (e : r / 64 ≡ n / 64 → ⊥). row-clear r 0
          (div-one (get_or ws (r / 64) 0) ∙ after (r / 64) (omega arith) a (lt-cases (r / 64) (length ws))) (omega arith))
          (eq-cases (r / 64) (n / 64))
