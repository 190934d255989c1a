-- The rows of a word and of a vector: in two parts, from one set bit to the next, a word at a time; and the loops that list them.
use mathlib.Core.Path.{◌≡◌, refl, sym, ap, ap₂, ◌∙◌}
use mathlib.Core.List.{List, [], ◌∷◌, ◌++◌, append_assoc, append-nil, map, map-append}
use mathlib.Core.Bool.{Bool, true, false, cond, true≢false}
use mathlib.Core.Logic.{◌⊎◌, inl, inr}
use Prim.Native.Nat.{ℕ, zero, suc, ◌+◌, ◌-◌, ◌*◌, ◌/◌, ◌%◌, ◌^◌, ◌<◌, ◌≤◌, min, zero-le}
use native.Mathlib.Nat.{add-suc, add-zero, zero-add, pow-suc, pos_of_ne-zero}
use native.Mathlib.Numerals.{one-add, add-one}
use native.Mathlib.Omega.{arith}
use lib.Bits.{bit_and, and_step, and_self, and_le_l}
use lib.Count.{count_trailing_zeros, under}
use lib.Dec.{eqb}
use lib.ListN.{length, get_or, set, length-set, length-append, length-map}
use lib.Seq.{sets, length-sets}
use Rattle.bits.specs.Bit.{bit}
use Rattle.bits.proofs.BitLaws.{bit-zero, bit-suc, bit-of-zero, bit-above}
use Rattle.bits.proofs.Cases.{lt-cases}
use Rattle.bits.specs.Words.{bit_at}
use Rattle.bits.proofs.WordLaws.{bit-of-word}
use Rattle.bits.specs.Rows.{count_below, rows_below, rows_of, count_of, word_rows}
use Rattle.bits.proofs.RowLaws.{length-rows, count-le, count-split, rows_ext}
use Rattle.bits.specs.Tab.{over}
use Rattle.bits.proofs.TabLaws.{sets-append, sets_over}
use Rattle.bits.proofs.TrailingLaws.{tz-bit}

-- ---- rows in two parts

-- a row or none, moved
map-one : (m n : ℕ) (t : Bool) → map (λ k. m + k) (cond t (n ∷ []) []) ≡ cond t ((m + n) ∷ []) []
map-one m n true = refl
map-one m n false = refl

-- the rows below m, and those from m on
pub rows_split : (f : ℕ → Bool) (m n : ℕ) → rows_below f (m + n) ≡ rows_below f m ++ map (λ k. m + k) (rows_below (λ k. f (m + k)) n)
unfolding rows_below
rows_split f m zero = rw (add-zero m, append-nil (rows_below f m))
rows_split f m (suc n) =
    rw (add-suc m n, map-append (λ k. m + k) (rows_below (λ k. f (m + k)) n) (cond (f (m + n)) (n ∷ []) []), map-one m n (f (m + n)))
    (ap (λ (l : List ℕ). l ++ cond (f (m + n)) ((m + n) ∷ []) []) (rows_split f m n)
    ∙ append_assoc (rows_below f m) (map (λ k. m + k) (rows_below (λ k. f (m + k)) n)) (cond (f (m + n)) ((m + n) ∷ []) []))

-- ---- the lowest set bit of a number, and the others

-- the rows of a number are its lowest bit, and those of its half moved by one
rows_step : (x n : ℕ) → rows_below (bit x) (suc n) ≡ cond (eqb (x % 2) 1) (0 ∷ []) [] ++ map (λ k. 1 + k) (rows_below (bit (x / 2)) n)
unfolding rows_below
rows_step x n =
    ap (rows_below (bit x)) (sym (one-add n)) ∙ rows_split (bit x) 1 n
    ∙ ap₂ (λ (t : Bool) (l : List ℕ). cond t (0 ∷ []) [] ++ map (λ k. 1 + k) l) (bit-zero x)
    (rows_ext (λ k. bit x (1 + k)) (bit (x / 2)) n (λ k h. ap (bit x) (one-add k) ∙ bit-suc x k))

-- 0 has none
no_rows : (n : ℕ) → rows_below (bit 0) n ≡ []
unfolding rows_below
no_rows zero = refl
no_rows (suc n) = rw (no_rows n, bit-of-zero n)

-- the first row is where the lowest bit stands; the others are those of the number without it
lowest : (n x : ℕ) → x < 2 ^ n → 0 < x → rows_below (bit x) n ≡ count_trailing_zeros n x ∷ rows_below (bit (bit_and x (x - 1))) n
unfolding count_trailing_zeros
lowest zero x h p = absurd (omega arith)
lowest (suc n) x h p = go (x % 2) refl (omega arith) (lowest n (x / 2) (half (rw (pow-suc 2 n) at h)))
  where
    half : x < 2 ^ n * 2 → x / 2 < 2 ^ n
    half l = omega arith

    rest : (h : ℕ) → bit_and x (x - 1) ≡ h * 2 → rows_below (bit (bit_and x (x - 1))) (suc n) ≡ map (λ k. 1 + k) (rows_below (bit h) n)
    rest h e =
        let a : bit_and x (x - 1) % 2 ≡ 0 = omega arith in
        let b : bit_and x (x - 1) / 2 ≡ h = omega arith in
        rows_step (bit_and x (x - 1)) n ∙ rw (a, b)

    go : (d : ℕ) → x % 2 ≡ d → d < 2
        → (0 < x / 2 → rows_below (bit (x / 2)) n ≡ count_trailing_zeros n (x / 2) ∷ rows_below (bit (bit_and (x / 2) (x / 2 - 1))) n)
        → rows_below (bit x) (suc n) ≡ under d (count_trailing_zeros n (x / 2)) ∷ rows_below (bit (bit_and x (x - 1))) (suc n)
    go zero e l ih =
        let a : (x - 1) / 2 ≡ x / 2 - 1 = omega arith in
        let b : min (x % 2) ((x - 1) % 2) ≡ 0 = omega arith in
        let c : bit_and x (x - 1) ≡ bit_and (x / 2) (x / 2 - 1) * 2 = and_step x (x - 1) ∙ rw (a, b) (omega arith) in
        rows_step x n ∙ rw (e, ih (omega arith), rest (bit_and (x / 2) (x / 2 - 1)) c, one-add)
    go (suc zero) e l ih =
        let a : (x - 1) / 2 ≡ x / 2 = omega arith in
        let b : min (x % 2) ((x - 1) % 2) ≡ 0 = omega arith in
        let c : bit_and x (x - 1) ≡ x / 2 * 2 = and_step x (x - 1) ∙ rw (a, b, and_self (x / 2)) (omega arith) in
        rows_step x n ∙ rw (e, rest (x / 2) c)
    go (suc (suc d)) e l ih = absurd (omega arith)

-- the lowest bit stands within the word
pub lowest-lt : (n x : ℕ) → x < 2 ^ n → (x ≡ 0 → ⊥) → count_trailing_zeros n x < n
lowest-lt n x h p = go (lt-cases (count_trailing_zeros n x) n)
  where
    go : (count_trailing_zeros n x < n) ⊎ (n ≤ count_trailing_zeros n x) → count_trailing_zeros n x < n
    go (inl l) = l
    go (inr l) = absurd (true≢false (sym (tz-bit n x h (pos_of_ne-zero p)) ∙ bit-above n x (count_trailing_zeros n x) h l))

-- ---- the rows of a word

-- a word of 0 has no row
pub word_none : (x base : ℕ) → x ≡ 0 → word_rows x base ≡ []
unfolding word_rows
word_none x base e = rw (e, no_rows 64)

-- the first row of a word, and the rows of the word without it
pub word_first : (x base : ℕ) → x < 2 ^ 64 → (x ≡ 0 → ⊥) → word_rows x base ≡ (base + count_trailing_zeros 64 x) ∷ word_rows (bit_and x (x - 1)) base
unfolding word_rows
word_first x base h p = ap (map (λ k. base + k)) (lowest 64 x h (pos_of_ne-zero p))

-- a word has at most 64 rows
pub word-length : (x base : ℕ) → length (word_rows x base) ≤ 64
unfolding word_rows
word-length x base = omega (arith, length-map (rows_below (bit x) 64) (λ k. base + k), length-rows (bit x) 64, count-le (bit x) 64)

-- a word without its first row has fewer rows
pub word-less : (x base : ℕ) → x < 2 ^ 64 → (x ≡ 0 → ⊥) → length (word_rows (bit_and x (x - 1)) base) < length (word_rows x base)
word-less x base h p = omega (arith, ap length (word_first x base h p))

-- the rows of one word more
pub word-all : (ws : List ℕ) (i : ℕ)
    → rows_below (bit_at ws) ((i + 1) * 64) ≡ rows_below (bit_at ws) (i * 64) ++ word_rows (get_or ws i 0) (i * 64)
unfolding word_rows
word-all ws i =
    let e : (i + 1) * 64 ≡ i * 64 + 64 = omega arith in
    ap (rows_below (bit_at ws)) e ∙ rows_split (bit_at ws) (i * 64) 64
    ∙ ap (λ (l : List ℕ). rows_below (bit_at ws) (i * 64) ++ map (λ k. i * 64 + k) l)
    (rows_ext (λ k. bit_at ws (i * 64 + k)) (bit (get_or ws i 0)) 64 (λ k h. bit-of-word ws i k h))

-- the rows of a vector are as many as are counted
pub count-rows : (ws : List ℕ) → count_of ws ≡ length (rows_of ws)
unfolding count_of rows_of
count-rows ws = sym (length-rows (bit_at ws) (length ws * 64))

-- ---- a loop that lists the rows of a word: what is listed, and what is still to come

-- the rows of w stored from `start` on are what is stored so far and the rows of x stored from `at` on
pub record Listing (entry list : List ℕ) (start at w base x : ℕ) : Type 0 where
  pub list-is : sets entry start (word_rows w base) ≡ sets list at (word_rows x base)
  pub place_is : start + length (word_rows w base) ≡ at + length (word_rows x base)
  pub room : length list ≡ length entry
  pub low : x < 2 ^ 64

module _ (entry list : List ℕ) (start at w base x : ℕ) (g : Listing entry list start at w base x) where
  module _ (some : x ≡ 0 → ⊥) where
    -- there is a cell for it
    pub listing-room : start + length (word_rows w base) ≤ length entry → at < length list
    listing-room h = omega (arith, g.place_is, g.room, ap length (word_first x base g.low some))

    -- fewer are left
    pub listing-less : length (word_rows (bit_and x (x - 1)) base) < length (word_rows x base)
    listing-less = word-less x base g.low some

    -- it is listed
    pub listing_step : (n : ℕ) → n ≡ base + count_trailing_zeros 64 x → Listing entry (set list at n) start (at + 1) w base (bit_and x (x - 1))
    listing_step n e =
        let s : word_rows x base ≡ n ∷ word_rows (bit_and x (x - 1)) base = word_first x base g.low some ∙ rw e in
        record {
          list-is = g.list-is ∙ rw (s, add-one at);
          place_is = omega (arith, g.place_is, ap length s);
          room = length-set list at n ∙ g.room;
          low = omega (arith, g.low, and_le_l x (x - 1));
        }

  -- all are listed
  pub listing-end : x ≡ 0 → (list ≡ sets entry start (word_rows w base)) × (at ≡ start + length (word_rows w base))
  listing-end z = let s = word_none x base z in (sym (g.list-is ∙ rw s), sym (g.place_is ∙ rw s (omega arith)))

-- ---- word by word: the rows of the first i words are listed

-- they stand at the front, and `at` is the place after them
pub record Listed (ws entry list : List ℕ) (at i : ℕ) : Type 0 where
  pub within : i ≤ length ws
  pub list-is : list ≡ sets entry 0 (rows_below (bit_at ws) (i * 64))
  pub place_is : at ≡ length (rows_below (bit_at ws) (i * 64))
  pub room : length list ≡ length entry

-- no word is listed
pub listed-none : (ws entry : List ℕ) → Listed ws entry entry 0 0
unfolding rows_below
listed-none ws entry = record { within = zero-le; list-is = refl; place_is = refl; room = refl }

-- the rows of the words up to a word of the vector are no more than all
rows-within : (ws : List ℕ) (i : ℕ) → i < length ws → length (rows_below (bit_at ws) ((i + 1) * 64)) ≤ count_of ws
unfolding count_of
rows-within ws i h =
    let n = (i + 1) * 64 in
    let m = length ws * 64 - n in
    let z : n + m ≡ length ws * 64 = omega arith in
    omega (arith, length-rows (bit_at ws) n, count-split (bit_at ws) n m, ap (count_below (bit_at ws)) z)

module _ (ws entry list : List ℕ) (at i : ℕ) (g : Listed ws entry list at i) where
  -- there are cells for the rows of the next word
  pub listed-room : (base : ℕ) → i < length ws → base ≡ i * 64 → count_of ws ≤ length entry
      → at + length (word_rows (get_or ws i 0) base) ≤ length list
  listed-room base h b r =
      let before = rows_below (bit_at ws) (i * 64) in
      rw b
      (omega (
        arith,
        g.place_is,
        g.room,
        ap length (word-all ws i),
        length-append before (word_rows (get_or ws i 0) (i * 64)),
        rows-within ws i h,
      ))

  -- they are listed
  pub listed-step : (base r : ℕ) (f : List ℕ) → i < length ws → base ≡ i * 64
      → (f ≡ sets list at (word_rows (get_or ws i 0) base)) × (r ≡ at + length (word_rows (get_or ws i 0) base))
      → Listed ws entry f r (i + 1)
  listed-step base r f h b v =
      let before = rows_below (bit_at ws) (i * 64) in
      let word = word_rows (get_or ws i 0) (i * 64) in
      record {
        within = omega arith;
        list-is = v.0 ∙ rw (b, g.list-is, g.place_is, word-all ws i, sets-append before word entry 0, zero-add (length before));
        place_is = v.1 ∙ rw (b, g.place_is, word-all ws i) (sym (length-append before word));
        room = ap length v.0 ∙ length-sets list at (word_rows (get_or ws i 0) base) ∙ g.room;
      }

  -- all are listed
  pub listed-end : length ws ≤ i → count_of ws ≤ length entry → list ≡ over (rows_of ws) entry
  unfolding rows_of
  listed-end h r =
      let e : i ≡ length ws = omega (arith, g.within) in
      g.list-is ∙ rw e (sets_over (rows_of ws) entry (omega (arith, count-rows ws)))
