-- The laws of many vectors in one list of words, and of the test that no row from a count on is set in any.
use mathlib.Core.Path.{◌≡◌, sym, ap, ap₂, ◌∙◌, subst}
use mathlib.Core.Bool.{Bool, true, ◌&&◌}
use mathlib.Core.List.{List}
use mathlib.Core.Logic.{⊎_elim}
use Prim.Native.Nat.{ℕ, ◌+◌, ◌-◌, ◌*◌, ◌/◌, ◌%◌, ◌^◌, ◌≤◌, ◌<◌}
use native.Mathlib.Omega.{arith}
use lib.Dec.{eqb, lit<}
use lib.ListN.{length, get_or, get_or-eq_default}
use Rattle.bits.proofs.Cases.{lt-cases}
use Rattle.bits.specs.All.{all_below}
use Rattle.bits.proofs.AllLaws.{all_of, all-ext, all-and}
use Rattle.bits.proofs.OrLaws.{or-clear, from_all}
use Rattle.bits.specs.Bit.{bit}
use Rattle.bits.specs.Part.{part}
use Rattle.bits.proofs.PartLaws.{length_part, get_d_part}
use Rattle.bits.specs.Words.{bit_at, Words}
use Rattle.bits.specs.Vec.{vec}
use Rattle.bits.proofs.VecLaws.{length-vec, bit_at-vec, words-vec, vec-unique}
use Rattle.bits.specs.Tail.{tail_clear, zeros_from}
use Rattle.bits.proofs.TailLaws.{tail-words, tail-past}
use Rattle.bits.specs.Vectors.{vector_at, tails_clear, word_of_all, rest_of, zeros_of_all}

-- ---- a part of the words, as rows

module _ (ws : List ℕ) (a n : ℕ) (fits : a + n ≤ length ws) where
  pub bit_at-part : (r : ℕ) → r < n * 64 → bit_at (part a n ws) r ≡ bit_at ws (a * 64 + r)
  unfolding bit_at
  bit_at-part r h =
      let i : a + r / 64 ≡ (a * 64 + r) / 64 = omega arith in
      let k : r % 64 ≡ (a * 64 + r) % 64 = omega arith in
      ap (λ (w : ℕ). bit w (r % 64)) (get_d_part a n ws (r / 64) 0 (omega arith)) ∙ ap₂ (λ (x y : ℕ). bit (get_or ws x 0) y) i k

  pub words-part : Words ws → Words (part a n ws)
  words-part w i =
      ⊎_elim (λ (l : i < n). subst (λ (x : ℕ). x < 2 ^ 64) (sym (get_d_part a n ws i 0 l)) (w (a + i)))
      (λ (l : n ≤ i). subst (λ (x : ℕ). x < 2 ^ 64)
      (sym (get_or-eq_default (part a n ws) 0 (subst (λ (x : ℕ). x ≤ i) (sym (length_part a n ws fits)) l))) (lit< tt))
      (lt-cases i n)

pub part-vec : (f : ℕ → Bool) (m a n : ℕ) → a + n ≤ m → part a n (vec f m) ≡ vec (λ r. f (a * 64 + r)) n
part-vec f m a n h =
    let fits : a + n ≤ length (vec f m) = subst (λ (x : ℕ). a + n ≤ x) (sym (length-vec f m)) h in
    vec-unique (λ r. f (a * 64 + r)) n (part a n (vec f m)) (length_part a n (vec f m) fits) (words-part (vec f m) a n fits (words-vec f m))
    (λ r l. bit_at-part (vec f m) a n fits r l ∙ bit_at-vec f m (a * 64 + r) (omega arith))

module _ (ws : List ℕ) (i : ℕ) (fits : 32 * i + 32 ≤ length ws) where
  pub length-vector_at : length (vector_at ws i) ≡ 32
  unfolding vector_at
  length-vector_at = length_part (32 * i) 32 ws fits

  pub get_or-vector_at : (j : ℕ) → j < 32 → get_or (vector_at ws i) j 0 ≡ get_or ws (32 * i + j) 0
  unfolding vector_at
  get_or-vector_at j h = get_d_part (32 * i) 32 ws j 0 h

  pub words-vector_at : Words ws → Words (vector_at ws i)
  unfolding vector_at
  words-vector_at = words-part ws (32 * i) 32 fits

pub vector_at-vec : (f : ℕ → Bool) (n i : ℕ) → 32 * i + 32 ≤ n → vector_at (vec f n) i ≡ vec (λ r. f (2048 * i + r)) 32
unfolding vector_at
vector_at-vec f n i h = part-vec f n (32 * i) 32 h ∙ ap (λ (k : ℕ). vec (λ r. f (k + r)) 32) (omega arith)

module _ (ws : List ℕ) (n row : ℕ) (w : Words ws) (fits : 32 * n ≤ length ws) where
  abbrev first : ℕ → Bool
  first i = eqb (get_or (vector_at ws i) (row / 64) 0 / 2 ^ (row % 64)) 0

  -- vector i by its words
  one : (i : ℕ) → i < n → row / 64 < 32 → first i && zeros_from (vector_at ws i) (row / 64 + 1) ≡ tail_clear (vector_at ws i) row
  one i l h = tail-words (vector_at ws i) row (words-vector_at ws i (omega arith) w) (omega (arith, length-vector_at ws i (omega arith)))

  firsts : row / 64 < 32 → eqb (word_of_all ws n (row / 64) / 2 ^ (row % 64)) 0 ≡ all_below first n
  unfolding word_of_all
  firsts h =
      or-clear (λ i. get_or ws (32 * i + row / 64) 0) n (row % 64)
      ∙ all-ext (λ i. eqb (get_or ws (32 * i + row / 64) 0 / 2 ^ (row % 64)) 0) first n
      (λ i l. ap (λ (x : ℕ). eqb (x / 2 ^ (row % 64)) 0) (sym (get_or-vector_at ws i (omega arith) (row / 64) h)))

  laters : (from : ℕ) → zeros_of_all ws n from ≡ all_below (λ i. zeros_from (vector_at ws i) from) n
  unfolding zeros_of_all rest_of zeros_from
  laters from =
      all-ext (λ i. eqb (rest_of ws from i) 0) (λ i. zeros_from (vector_at ws i) from) n
      (λ i l. from_all (λ j. get_or ws (32 * i + j) 0) from 32
      ∙ all-ext (λ k. eqb (get_or ws (32 * i + (from + k)) 0) 0) (λ k. eqb (get_or (vector_at ws i) (from + k) 0) 0) (32 - from)
      (λ k m. ap (λ (x : ℕ). eqb x 0) (sym (get_or-vector_at ws i (omega arith) (from + k) (omega arith))))
      ∙ ap (λ (x : ℕ). all_below (λ k. eqb (get_or (vector_at ws i) (from + k) 0) 0) (x - from)) (sym (length-vector_at ws i (omega arith))))

  pub tails-words : row / 64 < 32 → eqb (word_of_all ws n (row / 64) / 2 ^ (row % 64)) 0 && zeros_of_all ws n (row / 64 + 1)
      ≡ tails_clear ws n row
  unfolding tails_clear
  tails-words h = ap₂ (λ (a b : Bool). a && b) (firsts h) (laters (row / 64 + 1))
      ∙ sym (all-and first (λ i. zeros_from (vector_at ws i) (row / 64 + 1)) n)
      ∙ all-ext (λ i. first i && zeros_from (vector_at ws i) (row / 64 + 1)) (λ i. tail_clear (vector_at ws i) row) n (λ i l. one i l h)

  pub tails-past : 32 ≤ row / 64 → tails_clear ws n row ≡ true
  unfolding tails_clear
  tails-past h = all_of (λ i. tail_clear (vector_at ws i) row) n
      (λ i l. tail-past (vector_at ws i) row (omega (arith, length-vector_at ws i (omega arith))))
