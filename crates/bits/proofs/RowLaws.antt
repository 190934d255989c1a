-- The laws of the numbers below n that have f: how many they are, their list, ascending, and the smallest.
use mathlib.Core.Path.{◌≡◌, refl, sym, ap, ap₂, ◌∙◌, subst}
use mathlib.Core.Bool.{Bool, true, false, cond}
use mathlib.Core.List.Memᴰ
use mathlib.Core.List.{List, [], ◌∷◌, ◌++◌, append-nil, Memᴰ}
use mathlib.Core.Option.{Option, none, some, none-ne-some, some-ne-none, some-injective}
use mathlib.Core.Logic.{⊎_elim, ◌↔◌}
use Prim.Native.Nat.{ℕ, zero, suc, ◌+◌, ◌-◌, ◌*◌, ◌/◌, ◌%◌, ◌^◌, ◌≤◌, ◌<◌, zero-le}
use native.Mathlib.Omega.{arith}
use native.Mathlib.Numerals.{add-one, one-add}
use native.Mathlib.Nat.{not-suc-le-zero, eq-or-lt_of_le, le_of_suc-le-suc, lt-suc_self, add-zero, add-suc, add_assoc, zero-add, mod-lt}
use native.Mathlib.Nat.{zero-lt-suc, div-lt_iff_lt-mul, pow-suc, le-add_right}
use lib.Dec.{eqb}
use lib.Arith.{lt-one}
use lib.Count.{ones, ones_step}
use lib.ListN.{length, get_or, length-append, get_or-append}
use lib.Seq.{get_or-append_seam}
use Rattle.bits.proofs.Cases.{lt-cases}
use Rattle.bits.specs.Choice.{or_else, or_else-both}
use Rattle.bits.specs.Bit.{bit}
use Rattle.bits.proofs.BitLaws.{bit-zero, bit-suc}
use Rattle.bits.specs.Words.{bit_at, Words}
use Rattle.bits.proofs.WordLaws.{bit-of-word}
use Rattle.bits.specs.Rows.{count_below, rows_below, Ascending, smallest_below, Smallest}

module _ (f : ℕ → Bool) where
  count-step : (t : Bool) (n : ℕ) → length (cond t (n ∷ []) []) ≡ cond t 1 0
  count-step true n = refl
  count-step false n = refl

  pub length-rows : (n : ℕ) → length (rows_below f n) ≡ count_below f n
  unfolding count_below rows_below
  length-rows zero = refl
  length-rows (suc n) =
      length-append (rows_below f n) (cond (f n) (n ∷ []) []) ∙ ap₂ (λ (x y : ℕ). x + y) (length-rows n) (count-step (f n) n)

  at_most_one : (t : Bool) → cond t 1 0 ≤ 1
  at_most_one true = omega arith
  at_most_one false = omega arith

  pub count-le : (n : ℕ) → count_below f n ≤ n
  unfolding count_below
  count-le zero = zero-le
  count-le (suc n) = omega (arith, count-le n, at_most_one (f n))

  -- none is counted exactly if none has f
  pub count_none : (n : ℕ) → (count_below f n ≡ 0) ↔ ((k : ℕ) → k < n → f k ≡ false)
  unfolding count_below
  count_none n = (none n, no n)
    where
      one : (t : Bool) → ◌≡◌ {A = ℕ} (cond t 1 0) 0 → t ≡ false
      one true e = absurd (omega arith)
      one false e = refl

      none : (n : ℕ) → count_below f n ≡ 0 → (k : ℕ) → k < n → f k ≡ false
      none zero e k h = absurd (not-suc-le-zero h)
      none (suc n) e k h = ⊎_elim (λ (s : k ≡ n). ap f s ∙ one (f n) (omega arith)) (λ (l : k < n). none n (omega arith) k l)
          (eq-or-lt_of_le (le_of_suc-le-suc h))

      no : (n : ℕ) → ((k : ℕ) → k < n → f k ≡ false) → count_below f n ≡ 0
      no zero h = refl
      no (suc n) h = ap₂ (λ (x : ℕ) (t : Bool). x + cond t 1 0) (no n (λ k l. h k (omega arith))) (h n (lt-suc_self n))

  -- one more row, that has f or has not
  pub rows_take : (n : ℕ) → f n ≡ true → rows_below f (n + 1) ≡ rows_below f n ++ (n ∷ [])
  unfolding rows_below
  rows_take n e = ap (rows_below f) (add-one n) ∙ ap (λ (t : Bool). rows_below f n ++ cond t (n ∷ []) []) e

  pub rows-skip : (n j : ℕ) → ((k : ℕ) → k < j → f (n + k) ≡ false) → rows_below f (n + j) ≡ rows_below f n
  unfolding rows_below
  rows-skip n zero h = ap (rows_below f) (add-zero n)
  rows-skip n (suc j) h =
      ap (rows_below f) (add-suc n j) ∙ ap (λ (t : Bool). rows_below f (n + j) ++ cond t ((n + j) ∷ []) []) (h j (lt-suc_self j))
      ∙ append-nil (rows_below f (n + j)) ∙ rows-skip n j (λ k l. h k (omega arith))

  -- a row is listed exactly if it has f
  mem-step : (t : Bool) (n r : ℕ) → f n ≡ t → Memᴰ r (cond t (n ∷ []) []) → (r ≡ n) × (f n ≡ true)
  mem-step true n r e m = (Memᴰ.eq_of_singleton m, e)
  mem-step false n r e m = absurd (Memᴰ.not-nil m)

  pub rows-mem : (n r : ℕ) → Memᴰ r (rows_below f n) → (r < n) × (f r ≡ true)
  unfolding rows_below
  rows-mem zero r m = absurd (Memᴰ.not-nil m)
  rows-mem (suc n) r m =
      ⊎_elim (λ a. let h = rows-mem n r a in (omega arith, h.1))
      (λ b. let h = mem-step (f n) n r refl b in (omega arith, ap f h.0 ∙ h.1)) (Memᴰ.append_cases (rows_below f n) m)

  pub mem-rows : (n r : ℕ) → r < n → f r ≡ true → Memᴰ r (rows_below f n)
  unfolding rows_below
  mem-rows zero r h e = absurd (not-suc-le-zero h)
  mem-rows (suc n) r h e =
      ⊎_elim
      (λ s. Memᴰ.append_right (rows_below f n)
      (subst (λ (t : Bool). Memᴰ r (cond t (n ∷ []) [])) (sym (ap f (sym s) ∙ e)) (Memᴰ.head s)))
      (λ l. Memᴰ.append_left (cond (f n) (n ∷ []) []) (mem-rows n r l e)) (eq-or-lt_of_le (le_of_suc-le-suc h))

-- two functions that agree below n
module _ (f g : ℕ → Bool) where
  pub rows_ext : (n : ℕ) → ((k : ℕ) → k < n → f k ≡ g k) → rows_below f n ≡ rows_below g n
  unfolding rows_below
  rows_ext zero h = refl
  rows_ext (suc n) h = ap₂ (λ (l : List ℕ) (t : Bool). l ++ cond t (n ∷ []) []) (rows_ext n (λ k l. h k (omega arith)))
      (h n (lt-suc_self n))

  pub count-ext : (n : ℕ) → ((k : ℕ) → k < n → f k ≡ g k) → count_below f n ≡ count_below g n
  unfolding count_below
  count-ext zero h = refl
  count-ext (suc n) h = ap₂ (λ (l : ℕ) (t : Bool). l + cond t 1 0) (count-ext n (λ k l. h k (omega arith))) (h n (lt-suc_self n))

-- counted in two parts
pub count-split : (f : ℕ → Bool) (m n : ℕ) → count_below f (m + n) ≡ count_below f m + count_below (λ k. f (m + k)) n
unfolding count_below
count-split f m zero = ap (count_below f) (add-zero m) ∙ sym (add-zero (count_below f m))
count-split f m (suc n) =
    ap (count_below f) (add-suc m n) ∙ ap (λ (x : ℕ). x + cond (f (m + n)) 1 0) (count-split f m n)
    ∙ add_assoc (count_below f m) (count_below (λ k. f (m + k)) n) (cond (f (m + n)) 1 0)

-- what `count_ones` counts
parity : (x : ℕ) → x < 2 → x ≡ cond (eqb x 1) 1 0
parity zero h = refl
parity (suc zero) h = refl
parity (suc (suc x)) h = absurd (omega arith)

pub ones-count : (n w : ℕ) → w < 2 ^ n → ones w ≡ count_below (bit w) n
unfolding count_below ones
ones-count zero w h = ap ones (lt-one h)
ones-count (suc n) w h =
    ones_step w
    ∙ ap₂ (λ (x y : ℕ). x + y) (parity (w % 2) (mod-lt w (zero-lt-suc 1)) ∙ ap (λ (t : Bool). cond t 1 0) (sym (bit-zero w))
    ∙ sym (zero-add (cond (bit w 0) 1 0)))
    (ones-count n (w / 2) ((div-lt_iff_lt-mul (zero-lt-suc 1)).1 (subst (λ (x : ℕ). w < x) (pow-suc 2 n) h))
    ∙ count-ext (bit (w / 2)) (λ k. bit w (1 + k)) n (λ k l. sym (ap (bit w) (one-add k) ∙ bit-suc w k)))
    ∙ sym (count-split (bit w) 1 n) ∙ ap (count_below (bit w)) (one-add n)

-- one more word
pub count_word : (ws : List ℕ) (i : ℕ) → Words ws
    → count_below (bit_at ws) ((i + 1) * 64) ≡ count_below (bit_at ws) (i * 64) + ones (get_or ws i 0)
count_word ws i h =
    let e : (i + 1) * 64 ≡ i * 64 + 64 = omega arith in
    ap (count_below (bit_at ws)) e ∙ count-split (bit_at ws) (i * 64) 64
    ∙ ap (λ (x : ℕ). count_below (bit_at ws) (i * 64) + x)
    (count-ext (λ k. bit_at ws (i * 64 + k)) (bit (get_or ws i 0)) 64 (λ k l. bit-of-word ws i k l) ∙ sym (ones-count 64 (get_or ws i 0) (h i)))

-- what stands in the list is below n and has f
pub rows_at : (f : ℕ → Bool) (n i : ℕ) → i < length (rows_below f n) → (get_or (rows_below f n) i 0 < n) × (f (get_or (rows_below f n) i 0) ≡ true)
rows_at f n i h = rows-mem f n (get_or (rows_below f n) i 0) (mem-at (rows_below f n) i h)
  where
    mem-at : (l : List ℕ) (i : ℕ) → i < length l → Memᴰ (get_or l i 0) l
    mem-at [] i h = absurd (not-suc-le-zero h)
    mem-at (x ∷ l) zero h = Memᴰ.head refl
    mem-at (x ∷ l) (suc i) h = Memᴰ.tail (mem-at l i (le_of_suc-le-suc h))

pub rows-ascend : (f : ℕ → Bool) (n : ℕ) → Ascending (rows_below f n)
unfolding Ascending rows_below
rows-ascend f zero i j l h = absurd (not-suc-le-zero h)
rows-ascend f (suc n) i j l h = step (f n) (rows_below f n) (rows-ascend f n) (λ k m. (rows_at f n k m).0) i j l h
  where
    step : (t : Bool) (xs : List ℕ) → Ascending xs → ((k : ℕ) → k < length xs → get_or xs k 0 < n) → Ascending (xs ++ cond t (n ∷ []) [])
    step false xs a b i j l h = subst (λ (t : List ℕ). (i j : ℕ) → i < j → j < length t → get_or t i 0 < get_or t j 0)
        (sym (append-nil xs)) a i j l h
    step true xs a b i j l h =
        let len : length (xs ++ (n ∷ [])) ≡ length xs + 1 = length-append xs (n ∷ []) in
        let first : get_or (xs ++ (n ∷ [])) i 0 ≡ get_or xs i 0 = get_or-append xs (n ∷ []) 0 i (omega arith) in
        ⊎_elim
        (λ (m : j < length xs). subst (λ (x : ℕ). x < get_or (xs ++ (n ∷ [])) j 0) (sym first)
        (subst (λ (y : ℕ). get_or xs i 0 < y) (sym (get_or-append xs (n ∷ []) 0 j m)) (a i j l m)))
        (λ (m : length xs ≤ j).
        let e : j ≡ length xs = omega arith in
        subst (λ (x : ℕ). x < get_or (xs ++ (n ∷ [])) j 0) (sym first)
        (subst (λ (y : ℕ). get_or xs i 0 < y) (sym (ap (λ (k : ℕ). get_or (xs ++ (n ∷ [])) k 0) e ∙ get_or-append_seam xs n [] 0))
        (b i (omega arith)))) (lt-cases j (length xs))

-- where no number at or above n has f, more numbers add no row
pub where-cut : (f : ℕ → Bool) (n m : ℕ) → ((r : ℕ) → n ≤ r → f r ≡ false) → n ≤ m → rows_below f m ≡ rows_below f n
where-cut f n m h l =
    let e : n + (m - n) ≡ m = omega arith in
    ap (rows_below f) (sym e) ∙ rows-skip f n (m - n) (λ k o. h (n + k) (le-add_right n k))

module _ (f : ℕ → Bool) where
  pub smallest-zero : smallest_below f 0 ≡ none
  unfolding smallest_below
  smallest-zero = refl

  pub smallest-more : (n : ℕ) → smallest_below f (n + 1) ≡ or_else (smallest_below f n) (cond (f n) (some n) none)
  unfolding smallest_below
  smallest-more n = ap (smallest_below f) (add-one n)

  -- there is none exactly if no number below n has f
  none_of : (n : ℕ) → ((k : ℕ) → k < n → f k ≡ false) → smallest_below f n ≡ none
  unfolding smallest_below
  none_of zero h = refl
  none_of (suc n) h = ap₂ (λ (o : Option ℕ) (t : Bool). or_else o (cond t (some n) none)) (none_of n (λ k l. h k (omega arith)))
      (h n (lt-suc_self n))

  of_none : (n : ℕ) → smallest_below f n ≡ none → (k : ℕ) → k < n → f k ≡ false
  unfolding smallest_below
  of_none zero e k h = absurd (not-suc-le-zero h)
  of_none (suc n) e k h =
      let b = or_else-both (smallest_below f n) (cond (f n) (some n) none) e in
      ⊎_elim (λ (s : k ≡ n). ap f s ∙ off (f n) b.1) (λ (l : k < n). of_none n b.0 k l) (eq-or-lt_of_le (le_of_suc-le-suc h))
    where
      off : (t : Bool) → cond t (some n) none ≡ none → t ≡ false
      off true q = absurd (some-ne-none n q)
      off false q = refl

  pub smallest-none : (n : ℕ) → (smallest_below f n ≡ none) ↔ ((k : ℕ) → k < n → f k ≡ false)
  smallest-none n = (of_none n, none_of n)

  -- it is a exactly if a is below n and has f, and no smaller number has
  some_of : (n a : ℕ) → Smallest f n a → smallest_below f n ≡ some a
  unfolding smallest_below
  some_of zero a s = absurd (not-suc-le-zero s.below)
  some_of (suc n) a s =
      ⊎_elim
      (λ (e : a ≡ n). ap₂ (λ (o : Option ℕ) (t : Bool). or_else o (cond t (some n) none)) (none_of n (λ k l. s.least k (omega arith)))
      (ap f (sym e) ∙ s.has) ∙ ap some (sym e))
      (λ (l : a < n). ap (λ (o : Option ℕ). or_else o (cond (f n) (some n) none))
      (some_of n a (record { below = l; has = s.has; least = s.least })))
      (eq-or-lt_of_le (le_of_suc-le-suc s.below))

  of_some : (n a : ℕ) → smallest_below f n ≡ some a → Smallest f n a
  unfolding smallest_below
  of_some zero a e = absurd (none-ne-some a e)
  of_some (suc n) a e = go (smallest_below f n) refl e (f n) refl (of_some n)
    where
      go : (o : Option ℕ) → smallest_below f n ≡ o → or_else o (cond (f n) (some n) none) ≡ some a → (t : Bool) → f n ≡ t
          → ((b : ℕ) → smallest_below f n ≡ some b → Smallest f n b) → Smallest f (suc n) a
      go none p q true h ih =
          let s : n ≡ a = some-injective n a (ap (λ (t : Bool). cond t (some n) none) (sym h) ∙ q) in
          subst (Smallest f (suc n)) s (record { below = lt-suc_self n; has = h; least = of_none n p })
      go none p q false h ih = absurd (none-ne-some a (ap (λ (t : Bool). cond t (some n) none) (sym h) ∙ q))
      go (some b) p q t h ih = let s = ih a (p ∙ q) in record { below = omega (arith, s.below); has = s.has; least = s.least }

  pub smallest-some : (n a : ℕ) → (smallest_below f n ≡ some a) ↔ Smallest f n a
  smallest-some n a = (of_some n a, some_of n a)

  -- a search from 0 on: it passes v, or stops there
  pub smallest-past : (v : ℕ) → smallest_below f v ≡ none → f v ≡ false → smallest_below f (v + 1) ≡ none
  smallest-past v e h = smallest-more v ∙ ap₂ (λ (o : Option ℕ) (t : Bool). or_else o (cond t (some v) none)) e h

  pub smallest-here : (n v : ℕ) → smallest_below f v ≡ none → f v ≡ true → v < n → smallest_below f n ≡ some v
  smallest-here n v e h l = some_of n v (record { below = l; has = h; least = of_none v e })

pub smallest-ext : (f g : ℕ → Bool) (n : ℕ) → ((k : ℕ) → k < n → f k ≡ g k) → smallest_below f n ≡ smallest_below g n
unfolding smallest_below
smallest-ext f g zero h = refl
smallest-ext f g (suc n) h =
    ap₂ (λ (o : Option ℕ) (t : Bool). or_else o (cond t (some n) none)) (smallest-ext f g n (λ k l. h k (omega arith))) (h n (lt-suc_self n))
