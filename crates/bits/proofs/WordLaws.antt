-- The laws of the bits of a list of words: a list is its bits; one bit changed, two lists bit by bit; words stay words.
use mathlib.Core.Path.{◌≡◌, refl, sym, ap, ap₂, ◌∙◌, subst}
use mathlib.Core.Bool.{Bool, true, false, not, cond, ◌&&◌, ◌||◌}
use mathlib.Core.List.{List}
use mathlib.Core.Logic.{⊎_elim}
use Prim.Native.Nat.{ℕ, ◌+◌, ◌*◌, ◌/◌, ◌%◌, ◌^◌, ◌≤◌, ◌<◌}
use native.Mathlib.Omega.{arith}
use borrow.Author.Tests.{eq-eqb, ne_eqb}
use lib.Dec.{eqb, lit<}
use lib.ListN.{length, get_or, set, length-set, get_or-eq_default}
use lib.Seq.{ext_get_or, get_or-set_same, get_or-set_other, set_out}
use lib.Bits.{bit_or, xor_lt, or_lt}
use Rattle.bits.specs.Bit.{xorb, bit}
use Rattle.bits.proofs.BitLaws.{bit-ext, bit-of-zero, bit-or, bit-xor, bit-set, bit-clear, set-lt, clear-lt}
use Rattle.bits.proofs.Cases.{eq-cases, lt-cases}
use Rattle.bits.specs.Tab.{tab}
use Rattle.bits.proofs.TabLaws.{length-tab, get_or-tab, Filled, filled_more, filled-ahead}
use Rattle.bits.specs.Words.{bit_at, Words, put_bit, put_at, xor_at, xor_words, merged_words}

pub bit-of-word : (ws : List ℕ) (i k : ℕ) → k < 64 → bit_at ws (i * 64 + k) ≡ bit (get_or ws i 0) k
unfolding bit_at
bit-of-word ws i k h =
    let p : (i * 64 + k) / 64 ≡ i = omega arith in
    let q : (i * 64 + k) % 64 ≡ k = omega arith in
    ap₂ (λ (x y : ℕ). bit (get_or ws x 0) y) p q

-- a row at or past the end has no bit
pub bit_at-above : (ws : List ℕ) (r : ℕ) → length ws * 64 ≤ r → bit_at ws r ≡ false
unfolding bit_at
bit_at-above ws r h = ap (λ (w : ℕ). bit w (r % 64)) (get_or-eq_default ws 0 (omega arith)) ∙ bit-of-zero (r % 64)

-- a list of words is its bits
pub bit_at-ext : (a b : List ℕ) → length a ≡ length b → Words a → Words b
    → ((r : ℕ) → r < length a * 64 → bit_at a r ≡ bit_at b r) → a ≡ b
bit_at-ext a b e p q h =
    ext_get_or 0 a b e
    (λ i l. bit-ext 64 (get_or a i 0) (get_or b i 0) (p i) (q i) (λ k m. sym (bit-of-word a i k m) ∙ h (i * 64 + k) (omega arith)
    ∙ bit-of-word b i k m))

pub bit-put : (on : Bool) (w k j : ℕ) → bit (put_bit w k on) j ≡ cond (eqb k j) on (bit w j)
bit-put true w k j = bit-set w k j ∙ go (eqb k j) (bit w j)
  where
    go : (x y : Bool) → x || y ≡ cond x true y
    go true y = refl
    go false y = refl
bit-put false w k j = bit-clear w k j ∙ go (eqb k j) (bit w j)
  where
    go : (x y : Bool) → not x && y ≡ cond x false y
    go true y = refl
    go false y = refl

pub length-put : (ws : List ℕ) (r : ℕ) (on : Bool) → length (put_at ws r on) ≡ length ws
unfolding put_at
length-put ws r on = length-set ws (r / 64) (put_bit (get_or ws (r / 64) 0) (r % 64) on)

pub bit_at-put : (on : Bool) (ws : List ℕ) (r : ℕ) → r < length ws * 64 → (q : ℕ) → bit_at (put_at ws r on) q ≡ cond (eqb r q) on (bit_at ws q)
unfolding put_at bit_at
bit_at-put on ws r l q =
    ⊎_elim
    (λ (e : q / 64 ≡ r / 64).
    ap (λ (i : ℕ). bit (get_or (set ws (r / 64) w) i 0) (q % 64)) e
    ∙ ap (λ (x : ℕ). bit x (q % 64)) (get_or-set_same ws (r / 64) w 0 (omega arith)) ∙ bit-put on (get_or ws (r / 64) 0) (r % 64) (q % 64)
    ∙ ap₂ (λ (t : Bool) (i : ℕ). cond t on (bit (get_or ws i 0) (q % 64))) (low_same e) (sym e))
    (λ (n : q / 64 ≡ r / 64 → ⊥).
    ap (λ (x : ℕ). bit x (q % 64)) (get_or-set_other ws (r / 64) (q / 64) w 0 n)
    ∙ ap (λ (t : Bool). cond t on (bit (get_or ws (q / 64) 0) (q % 64))) (sym (ne_eqb r q (λ e. n (ap (λ (x : ℕ). x / 64) (sym e))))))
    (eq-cases (q / 64) (r / 64))
  where
    w : ℕ
    w = put_bit (get_or ws (r / 64) 0) (r % 64) on

    low_same : q / 64 ≡ r / 64 → eqb (r % 64) (q % 64) ≡ eqb r q
    low_same e =
        ⊎_elim (λ (s : r ≡ q). eq-eqb (r % 64) (q % 64) (ap (λ (x : ℕ). x % 64) s) ∙ sym (eq-eqb r q s))
        (λ (n : r ≡ q → ⊥). ne_eqb (r % 64) (q % 64) (λ s. n (omega arith)) ∙ sym (ne_eqb r q n)) (eq-cases r q)

pub length-xor_words : (a b : List ℕ) → length (xor_words a b) ≡ length a
unfolding xor_words
length-xor_words a b = length-tab (xor_at a b) (length a)

pub bit_at-xor : (a b : List ℕ) (r : ℕ) → r < length a * 64 → bit_at (xor_words a b) r ≡ xorb (bit_at a r) (bit_at b r)
unfolding xor_words bit_at
bit_at-xor a b r h =
    ap (λ (w : ℕ). bit w (r % 64)) (get_or-tab (xor_at a b) (length a) (r / 64) 0 (omega arith))
    ∙ bit-xor (get_or a (r / 64) 0) (get_or b (r / 64) 0) (r % 64)

-- a loop that merges goes on
pub merged-more : (a b : List ℕ) {d₀ d : List ℕ} {i : ℕ} → Filled (λ j. bit_or (get_or d₀ j 0) (xor_at a b j)) d₀ d i → i < length d
    → Filled (λ j. bit_or (get_or d₀ j 0) (xor_at a b j)) d₀ (set d i (bit_or (get_or d i 0) (xor_at a b i))) (i + 1)
merged-more a b {d₀} {d} {i} f h =
    filled_more (λ j. bit_or (get_or d₀ j 0) (xor_at a b j)) f h
    (ap (λ (w : ℕ). bit_or w (xor_at a b i)) (filled-ahead (λ j. bit_or (get_or d₀ j 0) (xor_at a b j)) f))

pub length_merged : (d a b : List ℕ) → length (merged_words d a b) ≡ length d
unfolding merged_words
length_merged d a b = length-tab (λ i. bit_or (get_or d i 0) (xor_at a b i)) (length d)

pub bit_at-merged : (d a b : List ℕ) (r : ℕ) → r < length d * 64 → bit_at (merged_words d a b) r ≡ bit_at d r || xorb (bit_at a r) (bit_at b r)
unfolding merged_words bit_at
bit_at-merged d a b r h =
    ap (λ (w : ℕ). bit w (r % 64)) (get_or-tab (λ i. bit_or (get_or d i 0) (xor_at a b i)) (length d) (r / 64) 0 (omega arith))
    ∙ bit-or (get_or d (r / 64) 0) (xor_at a b (r / 64)) (r % 64)
    ∙ ap (λ (x : Bool). bit (get_or d (r / 64) 0) (r % 64) || x) (bit-xor (get_or a (r / 64) 0) (get_or b (r / 64) 0) (r % 64))

-- ---- words stay words

pub words-set : (ws : List ℕ) (i w : ℕ) → Words ws → w < 2 ^ 64 → Words (set ws i w)
words-set ws i w h l j =
    ⊎_elim
    (λ (e : j ≡ i).
    ⊎_elim (λ (m : i < length ws). subst (λ (x : ℕ). x < 2 ^ 64)
    (sym (ap (λ (k : ℕ). get_or (set ws i w) k 0) e ∙ get_or-set_same ws i w 0 m)) l)
    (λ (m : length ws ≤ i). subst (λ (t : List ℕ). get_or t j 0 < 2 ^ 64) (sym (set_out ws i w m)) (h j)) (lt-cases i (length ws)))
    (λ (n : j ≡ i → ⊥). subst (λ (x : ℕ). x < 2 ^ 64) (sym (get_or-set_other ws i j w 0 n)) (h j)) (eq-cases j i)

put-lt : (on : Bool) (w k : ℕ) → w < 2 ^ 64 → k < 64 → put_bit w k on < 2 ^ 64
put-lt true w k h l = set-lt 64 w k h l
put-lt false w k h l = clear-lt 64 w k h l

pub words-put : (ws : List ℕ) (r : ℕ) (on : Bool) → Words ws → Words (put_at ws r on)
unfolding put_at
words-put ws r on h = words-set ws (r / 64) (put_bit (get_or ws (r / 64) 0) (r % 64) on) h
    (put-lt on (get_or ws (r / 64) 0) (r % 64) (h (r / 64)) (omega arith))

-- a table of words
pub words-tab : (g : ℕ → ℕ) (n : ℕ) → ((i : ℕ) → g i < 2 ^ 64) → Words (tab g n)
words-tab g n h i =
    ⊎_elim (λ (l : i < n). subst (λ (x : ℕ). x < 2 ^ 64) (sym (get_or-tab g n i 0 l)) (h i))
    (λ (l : n ≤ i). subst (λ (x : ℕ). x < 2 ^ 64)
    (sym (get_or-eq_default (tab g n) 0 (subst (λ (x : ℕ). x ≤ i) (sym (length-tab g n)) l))) (lit< tt))
    (lt-cases i n)

pub words-xor : (a b : List ℕ) → Words a → Words b → Words (xor_words a b)
unfolding xor_words
words-xor a b ha hb = words-tab (xor_at a b) (length a) (λ i. xor_lt 64 (get_or a i 0) (get_or b i 0) (ha i) (hb i))

pub words-merged : (d a b : List ℕ) → Words d → Words a → Words b → Words (merged_words d a b)
unfolding merged_words
words-merged d a b hd ha hb =
    words-tab (λ i. bit_or (get_or d i 0) (xor_at a b i)) (length d)
    (λ i. or_lt 64 (get_or d i 0) (xor_at a b i) (hd i) (xor_lt 64 (get_or a i 0) (get_or b i 0) (ha i) (hb i)))
