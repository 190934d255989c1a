-- Laws of a number that is read byte by byte.
use mathlib.Core.Path.{◌≡◌, refl, sym, ◌∙◌}
use mathlib.Core.List.{List, [], ◌∷◌}
use mathlib.Core.Bool.{Bool, true, false, cond, ◌&&◌, and-eq-true_iff}
use mathlib.Core.Option.{Option, none, some, some-injective, none-ne-some}
use Prim.Native.Nat.{ℕ, zero, suc, ◌+◌, ◌-◌, ◌*◌, ◌<◌, ◌≤◌}
use native.Mathlib.Omega.{arith}
use lib.Dec.{eqb, leb, leb-zero, leb-suc-zero, leb-suc-suc}
use lib.ListN.{length, get_or}
use borrow.Author.Tests.{le-leb, leb-true, eqb-true, eqb-false}
use mathlib.Core.Logic.{◌⊎◌, inl, inr}
use Rattle.bits.proofs.Cases.{lt-cases}
use Rattle.std.specs.Prelude.{Some, None}
use Rattle.std.specs.Prelude as std
use Rattle.std.specs.Char.{is_ascii_digit}
use Rattle.fields.specs.declared.Field.{Field}
use Rattle.fields.specs.Split.{space}
use Rattle.fields.specs.Number.{is_digit, all_are_digits, value_from, is_number, number}
use Rattle.fields.specs.Places.{part_at, end_at, after, found, tag, first_by, field_by, start_by}
use Rattle.fields.proofs.SplitLaws.{part_end, part-here, part_step, end-end, end-here, end_step, after-end, after-step}

-- ---- a digit

pub digit_low : (b : ℕ) → is_digit b ≡ true → 48 ≤ b
unfolding is_digit
digit_low b h = leb-true 48 b ((and-eq-true_iff (leb 48 b) (leb b 57)).0 h).0

pub digit-high : (b : ℕ) → is_digit b ≡ true → b ≤ 57
unfolding is_digit
digit-high b h = leb-true b 57 ((and-eq-true_iff (leb 48 b) (leb b 57)).0 h).1

-- the bytes from 48 to 57 are digits
pub digit-in : (b : ℕ) → 48 ≤ b → b ≤ 57 → is_digit b ≡ true
unfolding is_digit
digit-in b l h = rw (le-leb 48 b l, le-leb b 57 h)

-- what the library's test of a byte says
pub digit-is : (b : ℕ) → is_ascii_digit b ≡ is_digit b
unfolding is_digit
digit-is b = refl

pub digit-yes : (b : ℕ) (d : Bool) → d ≡ is_ascii_digit b → d ≡ true → is_digit b ≡ true
unfolding is_digit
digit-yes b d k u = sym k ∙ u

pub digit-not : (b : ℕ) (d : Bool) → d ≡ is_ascii_digit b → d ≡ false → is_digit b ≡ false
unfolding is_digit
digit-not b d k u = sym k ∙ u

-- ---- at most `left` more digits after those that say x

unfoldable pub digits_from : ℕ → ℕ → List ℕ → Option ℕ
digits_from left x [] = some x
digits_from zero x (b ∷ l) = none
digits_from (suc left) x (b ∷ l) = cond (is_digit b) (digits_from left (x * 10 + (b - 48)) l) none

digits_are : (left x : ℕ) (f : List ℕ) → digits_from left x f ≡ cond (all_are_digits f && leb (length f) left) (some (value_from x f)) none
unfolding digits_from all_are_digits value_from
digits_are left x [] = rw (leb-zero left)
digits_are zero x (b ∷ l) = go (is_digit b && all_are_digits l)
  where
    go : (t : Bool) → none ≡ cond (t && leb (suc (length l)) 0) (some (value_from (x * 10 + (b - 48)) l)) none
    go true = rw (leb-suc-zero (length l))
    go false = refl
digits_are (suc left) x (b ∷ l) = go (is_digit b) (digits_are left (x * 10 + (b - 48)) l)
  where
    go : (t : Bool)
        → digits_from left (x * 10 + (b - 48)) l ≡ cond (all_are_digits l && leb (length l) left) (some (value_from (x * 10 + (b - 48)) l)) none
        → cond t (digits_from left (x * 10 + (b - 48)) l) none
        ≡ cond (t && all_are_digits l && leb (suc (length l)) (suc left)) (some (value_from (x * 10 + (b - 48)) l)) none
    go true r = r ∙ rw (leb-suc-suc (length l) left)
    go false r = refl

-- a number is its first digit and at most three more
pub number-first : (b : ℕ) (f : List ℕ) → number (b ∷ f) ≡ cond (is_digit b) (digits_from 3 (b - 48) f) none
unfolding number is_number all_are_digits value_from
number-first b f = go (is_digit b)
  where
    go : (t : Bool)
        → cond (t && all_are_digits f && (leb 1 (suc (length f)) && leb (suc (length f)) 4)) (some (value_from (0 * 10 + (b - 48)) f)) none
        ≡ cond t (digits_from 3 (b - 48) f) none
    go true =
        let z : 0 * 10 + (b - 48) ≡ b - 48 = omega arith in
        rw (z, le-leb 1 (suc (length f)) (omega arith), leb-suc-suc (length f) 3) (sym (digits_are 3 (b - 48) f))
    go false = refl

pub number-empty : number [] ≡ none
unfolding number is_number all_are_digits
number-empty = refl

-- ---- the turns of a loop that reads a number: w is the whole answer

-- the number after the digits that say x, with at most `left` more from the place i on
unfoldable pub number_on : ℕ → ℕ → List ℕ → ℕ → std.Option Field
number_on left x line i = tag (digits_from left x (part_at space line i)) (end_at space line i)

digits-end : (left x : ℕ) → digits_from left x [] ≡ some x
unfolding digits_from
digits-end left x = refl

digits-full : (left x b : ℕ) (l : List ℕ) → left ≡ 0 → digits_from left x (b ∷ l) ≡ none
unfolding digits_from
digits-full zero x b l e = refl
digits-full (suc left) x b l e = absurd (omega arith)

digits-bad : (left x b : ℕ) (l : List ℕ) → is_digit b ≡ false → digits_from left x (b ∷ l) ≡ none
unfolding digits_from
digits-bad zero x b l h = refl
digits-bad (suc left) x b l h = rw h

digits_step : (left x b : ℕ) (l : List ℕ) → (left ≡ 0 → ⊥) → is_digit b ≡ true
    → digits_from left x (b ∷ l) ≡ digits_from (left - 1) (x * 10 + (b - 48)) l
unfolding digits_from
digits_step zero x b l n h = absurd (n refl)
digits_step (suc left) x b l n h = let e : suc left - 1 ≡ left = omega arith in rw (h, e)

module _ (line : List ℕ) (left x i : ℕ) (w : std.Option Field) where
  pub on-end : w ≡ number_on left x line i → length line ≤ i → i ≤ length line → Some (found x (length line)) ≡ w
  unfolding number_on tag
  on-end v h k =
      let z : i ≡ length line = omega arith in
      sym (v ∙ rw (part_end space line i h, digits-end left x, end-end space line i h, z))

  pub on-space : w ≡ number_on left x line i → i < length line → get_or line i 0 ≡ 32 → Some (found x i) ≡ w
  unfolding number_on tag
  on-space v h e = sym (v ∙ rw (part-here space line i h e, digits-end left x, end-here space line i h e))

  module _ (v : w ≡ number_on left x line i) (h : i < length line) (e : get_or line i 0 ≡ 32 → ⊥) where
    pub on-full : left ≡ 0 → None ≡ w
    unfolding number_on tag
    on-full z = sym (v ∙ rw (part_step space line i h e, digits-full left x (get_or line i 0) (part_at space line (i + 1)) z))

    pub on-bad : (d : Bool) → d ≡ is_ascii_digit (get_or line i 0) → d ≡ false → None ≡ w
    unfolding number_on tag
    on-bad d k u =
        sym (v ∙ rw (part_step space line i h e, digits-bad left x (get_or line i 0) (part_at space line (i + 1)) (digit-not (get_or line i 0) d k u)))

    pub on_step : (y : ℕ) (d : Bool) → (left ≡ 0 → ⊥) → d ≡ is_ascii_digit (get_or line i 0) → d ≡ true → y ≡ get_or line i 0 - 48
        → w ≡ number_on (left - 1) (x * 10 + y) line (i + 1)
    unfolding number_on
    on_step y d z k u m =
        let s = digits_step left x (get_or line i 0) (part_at space line (i + 1)) z (digit-yes (get_or line i 0) d k u) in
        v ∙ rw (part_step space line i h e, s, ← m, end_step space line i h e)

-- a digit is no space and no `-`
pub digit-no-space : (b : ℕ) → is_digit b ≡ true → b ≡ 32 → ⊥
digit-no-space b h e = omega (arith, digit_low b h)

pub digit-no-dash : (b : ℕ) → is_digit b ≡ true → b ≡ 45 → ⊥
digit-no-dash b h e = omega (arith, digit_low b h)

module _ (line : List ℕ) (i : ℕ) (d : Bool) (h : i < length line) (k : d ≡ is_ascii_digit (get_or line i 0)) where
  pub first-bad : d ≡ false → None ≡ start_by number line i
  unfolding start_by tag
  first-bad u = go (eqb (get_or line i 0) 32) refl
    where
      go : (t : Bool) → eqb (get_or line i 0) 32 ≡ t → None ≡ tag (number (part_at space line i)) (end_at space line i)
      go true e = rw (part-here space line i h (eqb-true (get_or line i 0) 32 e), number-empty)
      go false e =
          rw (part_step space line i h (eqb-false (get_or line i 0) 32 e), number-first (get_or line i 0) (part_at space line (i + 1)), digit-not (get_or line i 0) d k u)

  pub first-digit : (y : ℕ) → d ≡ true → y ≡ get_or line i 0 - 48 → start_by number line i ≡ number_on 3 y line (i + 1)
  unfolding start_by number_on
  first-digit y u m =
      let w = digit-yes (get_or line i 0) d k u in
      let n = digit-no-space (get_or line i 0) w in
      rw (part_step space line i h n, number-first (get_or line i 0) (part_at space line (i + 1)), w, ← m, end_step space line i h n)

-- ---- a field after a place

pub there : (say : List ℕ → Option ℕ) (line : List ℕ) (at : ℕ) (r : std.Option Field) → at + 1 < length line → r ≡ start_by say line (at + 1)
    → r ≡ field_by say line at
unfolding field_by first_by start_by end_at
there say line at r h e = let l : at < length line = omega arith in e ∙ rw (after-step space line at l)

pub none-there : (line : List ℕ) (at : ℕ) → length line ≤ at + 1 → None ≡ field_by number line at
unfolding field_by first_by tag
none-there line at h = go (lt-cases at (length line))
  where
    go : (at < length line) ⊎ (length line ≤ at) → None ≡ first_by number (after space line at) at
    go (inl l) = rw (after-step space line at l, part_end space line (at + 1) h, number-empty)
    go (inr l) = rw (after-end space line at l)

-- ---- the largest number that leaves room for `left` more digits

pub most : ℕ → ℕ
most zero = 9999
most (suc zero) = 999
most (suc (suc zero)) = 99
most (suc (suc (suc n))) = 9

pub most_step : (left x y b : ℕ) (d : Bool) → left ≤ 3 → (left ≡ 0 → ⊥) → x ≤ most left → d ≡ is_ascii_digit b → d ≡ true → y ≡ b - 48
    → x * 10 + y ≤ most (left - 1)
unfolding most
most_step left x y b d l n h k u m = go left l n h (omega (arith, digit-high b (digit-yes b d k u)))
  where
    go : (left : ℕ) → left ≤ 3 → (left ≡ 0 → ⊥) → x ≤ most left → y ≤ 9 → x * 10 + y ≤ most (left - 1)
    go zero l n h e = absurd (n refl)
    go (suc zero) l n h e = omega arith
    go (suc (suc zero)) l n h e = omega arith
    go (suc (suc (suc zero))) l n h e = omega arith
    go (suc (suc (suc (suc m)))) l n h e = omega arith

pub most-le : (left x : ℕ) → x ≤ most left → x ≤ 9999
unfolding most
most-le zero x h = h
most-le (suc zero) x h = omega arith
most-le (suc (suc zero)) x h = omega arith
most-le (suc (suc (suc n))) x h = omega arith

pub most-first : (y b : ℕ) (d : Bool) → d ≡ is_ascii_digit b → d ≡ true → y ≡ b - 48 → y ≤ most 3
unfolding most
most-first y b d k u m = omega (arith, digit-high b (digit-yes b d k u))

-- ---- a number is below 10,000

digits_le : (left x : ℕ) (f : List ℕ) (y : ℕ) → left ≤ 3 → x ≤ most left → digits_from left x f ≡ some y → y ≤ 9999
unfolding digits_from
digits_le left x [] y l h e = let z = some-injective x y e in omega (arith, most-le left x h)
digits_le zero x (b ∷ f) y l h e = absurd (none-ne-some y e)
digits_le (suc left) x (b ∷ f) y l h e = go (is_digit b) refl (digits_le left (x * 10 + (b - 48)) f y (omega arith))
  where
    p : suc left - 1 ≡ left
    p = omega arith

    go : (t : Bool) → is_digit b ≡ t
        → (x * 10 + (b - 48) ≤ most left → digits_from left (x * 10 + (b - 48)) f ≡ some y → y ≤ 9999) → y ≤ 9999
    go true q ih =
        let d : true ≡ is_ascii_digit b = sym q ∙ sym (digit-is b) in
        ih (rw p at (most_step (suc left) x (b - 48) b true l (λ z. omega arith) h d refl refl)) (rw q at e)
    go false q ih = absurd (none-ne-some y (rw q at e))

pub number-le : (f : List ℕ) (y : ℕ) → number f ≡ some y → y ≤ 9999
number-le [] y e = absurd (none-ne-some y (sym number-empty ∙ e))
number-le (b ∷ f) y e = go (is_digit b) refl (sym (number-first b f) ∙ e)
  where
    go : (t : Bool) → is_digit b ≡ t → cond (is_digit b) (digits_from 3 (b - 48) f) none ≡ some y → y ≤ 9999
    go true q k = digits_le 3 (b - 48) f y (omega arith) (most-first (b - 48) b true (sym q ∙ sym (digit-is b)) refl refl) (rw q at k)
    go false q k = absurd (none-ne-some y (rw q at k))
