-- Every list of words is the vector of a function of the row, and of one function alone.
use mathlib.Core.Path.{◌≡◌, refl, sym, ap, ◌∙◌}
use mathlib.Core.Bool.{Bool, true, false, cond, ◌||◌}
use mathlib.Core.List.{List}
use mathlib.Core.Logic.{◌⊎◌, inl, inr, ⊎_elim}
use Prim.Native.Nat.{ℕ, zero, suc, ◌+◌, ◌*◌, ◌/◌, ◌%◌, ◌^◌, ◌≤◌, ◌<◌}
use native.Mathlib.Omega.{arith}
use native.Mathlib.Numerals.{add-one}
use native.Mathlib.Nat.{not-suc-le-zero, eq-or-lt_of_le, le_of_suc-le-suc, lt_trans, lt-suc_self, lt_of_lt_of_le}
use borrow.Author.Tests.{eq-eqb, ne_eqb}
use lib.Pow.{pow_pos, pow-lt, pow_mono}
use lib.ListN.{length}
use Rattle.bits.proofs.Cases.{lt-cases}
use Rattle.bits.specs.Bit.{bit, set_bit}
use Rattle.bits.proofs.BitLaws.{bit-ext, bit-set, set-lt, bit-above}
use Rattle.bits.proofs.TabLaws.{length-tab, get_or-tab}
use Rattle.bits.specs.Words.{bit_at, Words}
use Rattle.bits.proofs.WordLaws.{bit_at-ext, words-tab}
use Rattle.bits.specs.Vec.{pack_bits, word_of, vec}

module _ (f : ℕ → Bool) where
  pack-lt-step : (t : Bool) (P k : ℕ) → P < 2 ^ k → cond t (set_bit P k) P < 2 ^ suc k
  pack-lt-step true P k h = set-lt (suc k) P k (lt_trans h (pow-lt (lt-suc_self k))) (lt-suc_self k)
  pack-lt-step false P k h = lt_trans h (pow-lt (lt-suc_self k))

  pub pack-lt : (k : ℕ) → pack_bits f k < 2 ^ k
  unfolding pack_bits
  pack-lt zero = pow_pos 0
  pack-lt (suc k) = pack-lt-step (f k) (pack_bits f k) k (pack-lt k)

  bit-pack-step : (t : Bool) (P k j : ℕ) → P < 2 ^ k → (j < k → bit P j ≡ f j) → f k ≡ t → (j ≡ k) ⊎ (j < k)
      → bit (cond t (set_bit P k) P) j ≡ f j
  bit-pack-step true P k j h ih e (inl s) = bit-set P k j ∙ ap (λ (b : Bool). b || bit P j) (eq-eqb k j (sym s)) ∙ sym (ap f s ∙ e)
  bit-pack-step true P k j h ih e (inr l) = bit-set P k j ∙ ap (λ (b : Bool). b || bit P j) (ne_eqb k j (λ s. omega arith)) ∙ ih l
  bit-pack-step false P k j h ih e (inl s) = bit-above k P j h (omega arith) ∙ sym (ap f s ∙ e)
  bit-pack-step false P k j h ih e (inr l) = ih l

  pub bit-pack : (k j : ℕ) → j < k → bit (pack_bits f k) j ≡ f j
  unfolding pack_bits
  bit-pack zero j h = absurd (not-suc-le-zero h)
  bit-pack (suc k) j h = bit-pack-step (f k) (pack_bits f k) k j (pack-lt k) (bit-pack k j) refl (eq-or-lt_of_le (le_of_suc-le-suc h))

pub pack-more : (f : ℕ → Bool) (k : ℕ) → pack_bits f (k + 1) ≡ cond (f k) (set_bit (pack_bits f k) k) (pack_bits f k)
unfolding pack_bits
pack-more f k = ap (pack_bits f) (add-one k)

-- bits from n on that are not set may be left out
pub pack-cut : (f : ℕ → Bool) (n m : ℕ) → n ≤ m → ((k : ℕ) → n ≤ k → k < m → f k ≡ false) → pack_bits f m ≡ pack_bits f n
pack-cut f n m l h =
    bit-ext m (pack_bits f m) (pack_bits f n) (pack-lt f m) (lt_of_lt_of_le (pack-lt f n) (pow_mono l))
    (λ k o. bit-pack f m k o
    ∙ ⊎_elim (λ (p : k < n). sym (bit-pack f n k p)) (λ (p : n ≤ k). h k p o ∙ sym (bit-above n (pack_bits f n) k (pack-lt f n) p))
    (lt-cases k n))

module _ (f : ℕ → Bool) (n : ℕ) where
  pub length-vec : length (vec f n) ≡ n
  unfolding vec
  length-vec = length-tab (word_of f) n

  pub bit_at-vec : (r : ℕ) → r < n * 64 → bit_at (vec f n) r ≡ f r
  unfolding vec bit_at
  bit_at-vec r h =
      ap (λ (w : ℕ). bit w (r % 64)) (get_or-tab (word_of f) n (r / 64) 0 (omega arith))
      ∙ bit-pack (λ k. f (r / 64 * 64 + k)) 64 (r % 64) (omega arith) ∙ ap f (omega arith)

  pub words-vec : Words (vec f n)
  unfolding vec
  words-vec = words-tab (word_of f) n (λ i. pack-lt (λ k. f (i * 64 + k)) 64)

-- the words whose bits are f are one list
pub vec-unique : (f : ℕ → Bool) (n : ℕ) (ws : List ℕ) → length ws ≡ n → Words ws → ((r : ℕ) → r < n * 64 → bit_at ws r ≡ f r) → ws ≡ vec f n
vec-unique f n ws e h b =
    bit_at-ext ws (vec f n) (e ∙ sym (length-vec f n)) h (words-vec f n)
    (λ r l. let m : r < n * 64 = omega arith in b r m ∙ sym (bit_at-vec f n r m))

-- every list of words is the vector of its own bits
pub vec-bits : (ws : List ℕ) → Words ws → vec (bit_at ws) (length ws) ≡ ws
vec-bits ws h = sym (vec-unique (bit_at ws) (length ws) ws refl h (λ r l. refl))

-- two functions that agree on every row of the words
pub vec-ext : (f g : ℕ → Bool) (n : ℕ) → ((r : ℕ) → r < n * 64 → f r ≡ g r) → vec f n ≡ vec g n
vec-ext f g n h = vec-unique g n (vec f n) (length-vec f n) (words-vec f n) (λ r l. bit_at-vec f n r l ∙ h r l)

-- no row: words of 0
pack-none : (k : ℕ) → pack_bits (λ r. false) k ≡ 0
unfolding pack_bits
pack-none zero = refl
pack-none (suc k) = pack-none k

pub word_none : (i : ℕ) → 0 ≡ word_of (λ r. false) i
word_none i = sym (pack-none 64)
