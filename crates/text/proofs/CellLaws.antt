-- Laws of the fields of a column: a number up to 254, `-`, a short field, and what each is at its place.
use Rattle.std.proofs.Common.{◌≡◌, ℕ, ◌+◌, ◌-◌, ◌*◌, ◌<◌, ◌≤◌, Bool, true, false, eqb, List, [], ◌∷◌, length, get_or, sym, refl, ap, ◌∙◌, arith, eq-eqb, ne_eqb, eqb-true, le-leb}
use mathlib.Core.Bool.{and-false}
use mathlib.Core.Option.{Option, none, some}
use borrow.Author.Tests.{lt-leb, eqb-false}
use Rattle.std.specs.Prelude.{Some, None}
use Rattle.std.specs.Prelude as std
use Rattle.std.specs.Char.{is_ascii_digit}
use Rattle.fields.specs.declared.Field.{Field}
use Rattle.text.specs.Bytes.{bytes, same}
use Rattle.fields.specs.Split.{space}
use Rattle.fields.specs.Number.{is_digit, number}
use Rattle.text.specs.Parse.{up_to254, small}
use Rattle.fields.specs.Places.{part_at, after, found, tag, first_by, field_by}
use Rattle.text.specs.Cells.{byte_of, Near}
use Rattle.fields.proofs.SplitLaws.{part_end, part-here, part_step, after-step}
use Rattle.fields.proofs.NumberLaws.{digits_from, number-first, digit-in, digit_low, digit-high, digit-yes, digit-no-space, digit-no-dash}
use Rattle.text.proofs.WordLaws.{same-eq}

-- ---- a number up to 254

tag_none : (o : Option ℕ) (p : ℕ) → None ≡ tag o p → None ≡ tag (up_to254 o) p
unfolding up_to254 tag
tag_none none p e = refl
tag_none (some x) p e = let z = e in cc

tag-over : (o : Option ℕ) (p : ℕ) (r : Field) → Some r ≡ tag o p → 254 < r.value → None ≡ tag (up_to254 o) p
unfolding up_to254 tag
tag-over none p r e h = refl
tag-over (some x) p r e h =
    let w : r ≡ found x p = cc in
    let z : r.value ≡ x = ap (λ (q : Field). q.value) w in
    rw (lt-leb x 254 (omega arith))

tag-under : (o : Option ℕ) (p : ℕ) (r : Field) → Some r ≡ tag o p → r.value ≤ 254 → Some r ≡ tag (up_to254 o) p
unfolding up_to254 tag
tag-under none p r e h = e
tag-under (some x) p r e h =
    let w : r ≡ found x p = cc in
    let z : r.value ≡ x = ap (λ (q : Field). q.value) w in
    rw (le-leb x 254 (omega arith)) e

module _ (line : List ℕ) (at : ℕ) where
  pub small-none : None ≡ field_by number line at → None ≡ field_by small line at
  unfolding field_by first_by small
  small-none e = go (after space line at) e
    where
      go : (fs : List (List ℕ)) → None ≡ first_by number fs at → None ≡ first_by small fs at
      go [] k = k
      go (f ∷ fs) k = tag_none (number f) (at + 1 + length f) k

  module _ (r : Field) (e : Some r ≡ field_by number line at) where
    pub small-over : 254 < r.value → None ≡ field_by small line at
    unfolding field_by first_by small
    small-over h = go (after space line at) e
      where
        go : (fs : List (List ℕ)) → Some r ≡ first_by number fs at → None ≡ first_by small fs at
        go [] k = refl
        go (f ∷ fs) k = tag-over (number f) (at + 1 + length f) r k h

    pub small_is : r.value ≤ 254 → Some r ≡ field_by small line at
    unfolding field_by first_by small
    small_is h = go (after space line at) e
      where
        go : (fs : List (List ℕ)) → Some r ≡ first_by number fs at → Some r ≡ first_by small fs at
        go [] k = k
        go (f ∷ fs) k = tag-under (number f) (at + 1 + length f) r k h

-- ---- `-`

module _ (line : List ℕ) (at : ℕ) where
  pub dash-none : length line ≤ at + 1 → false ≡ same (part_at space line (at + 1)) (bytes "-")
  unfolding same
  dash-none h = rw (part_end space line (at + 1) h)

  pub dash-other : at + 1 < length line → (get_or line (at + 1) 0 ≡ 45 → ⊥) → false ≡ same (part_at space line (at + 1)) (bytes "-")
  unfolding same
  dash-other h e = go (eqb (get_or line (at + 1) 0) 32) refl
    where
      go : (t : Bool) → eqb (get_or line (at + 1) 0) 32 ≡ t → false ≡ same (part_at space line (at + 1)) (bytes "-")
      go true q = rw (part-here space line (at + 1) h (eqb-true (get_or line (at + 1) 0) 32 q))
      go false q = rw (part_step space line (at + 1) h (eqb-false (get_or line (at + 1) 0) 32 q), ne_eqb (get_or line (at + 1) 0) 45 e)

  module _ (h : at + 1 < length line) (e : get_or line (at + 1) 0 ≡ 45) where
    pub dash-last : length line ≤ at + 2 → true ≡ same (part_at space line (at + 1)) (bytes "-")
    unfolding same
    dash-last k = rw (part_step space line (at + 1) h (λ w. omega arith), e, part_end space line (at + 1 + 1) (omega arith))

    pub dash-yes : at + 2 < length line → get_or line (at + 2) 0 ≡ 32 → true ≡ same (part_at space line (at + 1)) (bytes "-")
    unfolding same
    dash-yes k s =
        let p : at + 2 ≡ at + 1 + 1 = omega arith in
        rw (part_step space line (at + 1) h (λ w. omega arith), e, part-here space line (at + 1 + 1) (omega arith) (rw p at s))

    pub dash-no : at + 2 < length line → (get_or line (at + 2) 0 ≡ 32 → ⊥) → false ≡ same (part_at space line (at + 1)) (bytes "-")
    unfolding same
    dash-no k s =
        let p : at + 2 ≡ at + 1 + 1 = omega arith in
        rw (part_step space line (at + 1) h (λ w. omega arith), e, part_step space line (at + 1 + 1) (omega arith) (rw p at s))

-- ---- a field of one byte, and one of two

-- a digit
pub byte-digit : (b : ℕ) → is_digit b ≡ true → byte_of (b ∷ []) ≡ some (b - 48)
unfolding byte_of small up_to254 same digits_from
byte-digit b d =
    rw (ne_eqb b 45 (digit-no-dash b d), number-first b [], d, le-leb (b - 48) 254 (omega (arith, digit-high b d)))

-- `-`
pub byte-dash : (b : ℕ) → b ≡ 45 → byte_of (b ∷ []) ≡ some 255
unfolding byte_of same
byte-dash b e = rw (eq-eqb b 45 e)

-- two digits: the second is one, and what they say is below 100
byte-two : (a b x : ℕ) → is_digit b ≡ true → x ≤ 99 → x + 528 ≡ a * 10 + b → byte_of (a ∷ b ∷ []) ≡ some x
unfolding byte_of small up_to254 same digits_from
byte-two a b x d l e =
    let v : (a - 48) * 10 + (b - 48) ≡ x = omega (arith, digit_low b d, digit-high b d) in
    rw (
      and-false (eqb a 45),
      number-first a (b ∷ []),
      digit-in a (omega (arith, digit-high b d)) (omega (arith, digit_low b d)),
      d,
      v,
      le-leb x 254 (omega arith),
    )

-- ---- the field of a cell at its place

module _ (line : List ℕ) (at : ℕ) (d : Bool) (h : at < length line) (k : d ≡ same (part_at space line (at + 1)) (bytes "-")) where
  pub cell-dash : d ≡ true → Some (found 255 (at + 2)) ≡ field_by byte_of line at
  unfolding field_by first_by byte_of tag
  cell-dash u =
      let l : length (part_at space line (at + 1)) ≡ 1 = ap length (same-eq (part_at space line (at + 1)) (bytes "-") (sym k ∙ u)) in
      let p : at + 1 + 1 ≡ at + 2 = omega arith in
      rw (after-step space line at h, ← k, u, l, p)

  pub cell-small : (q : std.Option Field) → d ≡ false → q ≡ field_by small line at → q ≡ field_by byte_of line at
  unfolding field_by first_by byte_of
  cell-small q u g = g ∙ rw (after-step space line at h, ← k, u)

-- ---- a cell of one digit or two between two spaces

module _ (line : List ℕ) (at : ℕ) (h : at + 3 < length line) (d : Bool) where
  -- two digits, and a space
  pub near-two : (x w : ℕ) → w ≡ x → d ≡ is_ascii_digit (get_or line (at + 2) 0) → d ≡ true → get_or line (at + 3) 0 ≡ 32
      → (x ≤ 99 → x + 528 ≡ get_or line (at + 1) 0 * 10 + get_or line (at + 2) 0) → x ≤ 99 → Near line at (found w (at + 3))
  unfolding field_by first_by tag
  near-two x w e k u s v l =
      let b : is_digit (get_or line (at + 2) 0) ≡ true = digit-yes (get_or line (at + 2) 0) d k u in
      let p : at + 1 + 1 ≡ at + 2 = omega arith in
      let q : at + 2 + 1 ≡ at + 3 = omega arith in
      let m : at + 1 + 2 ≡ at + 3 = omega arith in
      record {
        cell-is = sym (rw (
          after-step space line at (omega arith),
          part_step space line (at + 1) (omega arith) (λ w. omega (arith, v l, digit-high (get_or line (at + 2) 0) b)),
          p,
          part_step space line (at + 2) (omega arith) (digit-no-space (get_or line (at + 2) 0) b),
          q,
          part-here space line (at + 3) h s,
          byte-two (get_or line (at + 1) 0) (get_or line (at + 2) 0) x b l (v l),
          m,
          e,
        ));
        inside = h;
      }

  -- a digit, and a space
  pub near-one : (y : ℕ) → d ≡ is_ascii_digit (get_or line (at + 1) 0) → d ≡ true → get_or line (at + 2) 0 ≡ 32 → y ≡ get_or line (at + 1) 0 - 48
      → Near line at (found y (at + 2))
  unfolding field_by first_by tag
  near-one y k u s e =
      let b : is_digit (get_or line (at + 1) 0) ≡ true = digit-yes (get_or line (at + 1) 0) d k u in
      let p : at + 1 + 1 ≡ at + 2 = omega arith in
      record {
        cell-is = sym (rw (
          after-step space line at (omega arith),
          part_step space line (at + 1) (omega arith) (digit-no-space (get_or line (at + 1) 0) b),
          p,
          part-here space line (at + 2) (omega arith) s,
          byte-digit (get_or line (at + 1) 0) b,
          p,
          e,
        ));
        inside = omega arith;
      }
