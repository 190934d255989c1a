-- What each operation makes of the vector of a function: rows put, turned over, listed, counted, none from a row on.
use mathlib.Core.Path.{◌≡◌, sym, ap, ◌∙◌, subst}
use mathlib.Core.Bool.{Bool, false, cond, ◌||◌}
use mathlib.Core.List.{List}
use mathlib.Core.Logic.{⊎_elim}
use Prim.Native.Nat.{ℕ, suc, ◌*◌, ◌/◌, ◌%◌, ◌^◌, ◌≤◌, ◌<◌}
use native.Mathlib.Omega.{arith}
use lib.Dec.{eqb, lit<}
use lib.ListN.{length, get_or, replicate, length-replicate, get_or-replicate, get_or-eq_default}
use Rattle.bits.specs.Any.{any_from}
use Rattle.bits.proofs.AnyLaws.{any_none, any-more}
use Rattle.bits.specs.Bit.{xorb, bit}
use Rattle.bits.proofs.BitLaws.{bit-of-zero}
use Rattle.bits.proofs.Cases.{lt-cases}
use Rattle.bits.specs.Words.{bit_at, Words, put_at, xor_words, merged_words}
use Rattle.bits.proofs.WordLaws.{bit_at-put, bit_at-xor, bit_at-merged, length-put, length-xor_words, length_merged, words-put}
use Rattle.bits.proofs.WordLaws.{words-xor, words-merged}
use Rattle.bits.specs.Vec.{vec}
use Rattle.bits.proofs.VecLaws.{length-vec, bit_at-vec, words-vec, vec-unique, vec-ext}
use Rattle.bits.specs.Rows.{count_below, rows_below, count_of, rows_of}
use Rattle.bits.proofs.RowLaws.{rows_ext, count-ext}

module _ (f : ℕ → Bool) (n : ℕ) where
  pub rows_of-vec : rows_of (vec f n) ≡ rows_below f (n * 64)
  unfolding rows_of
  rows_of-vec =
      ap (λ (k : ℕ). rows_below (bit_at (vec f n)) (k * 64)) (length-vec f n) ∙ rows_ext (bit_at (vec f n)) f (n * 64) (bit_at-vec f n)

  pub count_of-vec : count_of (vec f n) ≡ count_below f (n * 64)
  unfolding count_of
  count_of-vec =
      ap (λ (k : ℕ). count_below (bit_at (vec f n)) (k * 64)) (length-vec f n) ∙ count-ext (bit_at (vec f n)) f (n * 64) (bit_at-vec f n)

-- a vector with the rows of another turned over
pub xor-vec : (a : List ℕ) (f : ℕ → Bool) → Words a → xor_words a (vec f (length a)) ≡ vec (λ r. xorb (bit_at a r) (f r)) (length a)
xor-vec a f h =
    vec-unique (λ r. xorb (bit_at a r) (f r)) (length a) (xor_words a (vec f (length a))) (length-xor_words a (vec f (length a)))
    (words-xor a (vec f (length a)) h (words-vec f (length a)))
    (λ r l. bit_at-xor a (vec f (length a)) r l ∙ ap (xorb (bit_at a r)) (bit_at-vec f (length a) r l))

-- a vector with the rows of another, some turned over, set too
pub merge-vec : (d a : List ℕ) (g : ℕ → Bool) → Words d → Words a
    → merged_words d a (vec g (length d)) ≡ vec (λ r. bit_at d r || xorb (bit_at a r) (g r)) (length d)
merge-vec d a g hd ha =
    vec-unique (λ r. bit_at d r || xorb (bit_at a r) (g r)) (length d) (merged_words d a (vec g (length d)))
    (length_merged d a (vec g (length d)))
    (words-merged d a (vec g (length d)) hd ha (words-vec g (length d)))
    (λ r l. bit_at-merged d a (vec g (length d)) r l ∙ ap (λ (x : Bool). bit_at d r || xorb (bit_at a r) x) (bit_at-vec g (length d) r l))

-- so merging, one after another, the vectors of f a, .., f (v - 1) gives the rows that one of them has
pub merge-more : (f : ℕ → ℕ → Bool) (a v n : ℕ) (d : List ℕ) → a ≤ v → d ≡ vec (λ r. any_from (λ u. f u r) a v) n
    → vec (λ r. bit_at d r || f v r) n ≡ vec (λ r. any_from (λ u. f u r) a (suc v)) n
merge-more f a v n d h e =
    vec-ext (λ r. bit_at d r || f v r) (λ r. any_from (λ u. f u r) a (suc v)) n
    (λ r l. ap (λ (x : Bool). x || f v r) (ap (λ (w : List ℕ). bit_at w r) e ∙ bit_at-vec (λ q. any_from (λ u. f u q) a v) n r l)
    ∙ sym (any-more (λ u. f u r) a v h))

module _ (f : ℕ → Bool) (n r : ℕ) (h : r < n * 64) where
  inside : r < length (vec f n) * 64
  inside = subst (λ (k : ℕ). r < k * 64) (sym (length-vec f n)) h

  -- a row made `on` is the function changed at that row
  pub put-vec : (on : Bool) → put_at (vec f n) r on ≡ vec (λ q. cond (eqb r q) on (f q)) n
  put-vec on =
      vec-unique (λ q. cond (eqb r q) on (f q)) n (put_at (vec f n) r on) (length-put (vec f n) r on ∙ length-vec f n)
      (words-put (vec f n) r on (words-vec f n))
      (λ q l. bit_at-put on (vec f n) r inside q ∙ ap (cond (eqb r q) on) (bit_at-vec f n q l))

-- words of 0 have no row
module _ (n : ℕ) where
  zero-at : (i : ℕ) → ◌≡◌ {A = ℕ} (get_or (replicate n 0) i 0) 0
  zero-at i = ⊎_elim (λ (l : i < n). get_or-replicate n i 0 0 l)
      (λ (l : n ≤ i). get_or-eq_default (replicate n 0) 0 (omega (arith, length-replicate {A = ℕ} n 0))) (lt-cases i n)

  pub bit_at-zeros : (r : ℕ) → bit_at (replicate n 0) r ≡ false
  unfolding bit_at
  bit_at-zeros r = ap (λ (w : ℕ). bit w (r % 64)) (zero-at (r / 64)) ∙ bit-of-zero (r % 64)

  pub zeros-vec : replicate n 0 ≡ vec (λ r. false) n
  zeros-vec =
      vec-unique (λ r. false) n (replicate n 0) (length-replicate n 0) (λ i. subst (λ (x : ℕ). x < 2 ^ 64) (sym (zero-at i)) (lit< tt))
      (λ r l. bit_at-zeros r)

-- no vector merged: no row
pub merge_none : (f : ℕ → ℕ → Bool) (a n : ℕ) → replicate n 0 ≡ vec (λ r. any_from (λ u. f u r) a a) n
merge_none f a n = zeros-vec n ∙ vec-ext (λ r. false) (λ r. any_from (λ u. f u r) a a) n (λ r l. sym (any_none (λ u. f u r) a))
