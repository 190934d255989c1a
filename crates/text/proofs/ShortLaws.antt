-- Cells of one byte each: spaces and cells that take turns, and the loop that stores the cells.
use Rattle.std.proofs.Common.{◌≡◌, ℕ, zero, suc, ◌+◌, ◌-◌, ◌*◌, ◌/◌, ◌%◌, ◌<◌, ◌≤◌, Bool, true, false, cond, ◌&&◌, ◌||◌, eqb, leb, ◌⊎◌, List, [], ◌∷◌, length, get_or, set, sym, refl, ap, ◌∙◌, inl, inr, true≢false, arith, eq-eqb, ne_eqb, eqb-true}
use mathlib.Core.Bool.{and-eq-true_iff}
use mathlib.Core.Option.{some}
use Rattle.bits.proofs.Cases.{eq-cases, lt-cases}
use Rattle.std.specs.Prelude.{Some}
use Rattle.std.specs.Char.{is_ascii_digit}
use Rattle.fields.specs.Split.{space}
use Rattle.fields.specs.Number.{is_digit}
use Rattle.fields.specs.Places.{part_at, found, tag, first_by, field_by}
use Rattle.text.specs.Cells.{byte_of, Stored, Filling}
use Rattle.text.specs.Short.{short_known, short_value, turned_bytes, Turned, Short}
use Rattle.fields.proofs.SplitLaws.{part_end, part-here, part_step, after-step}
use Rattle.text.proofs.CellLaws.{byte-digit, byte-dash}
use Rattle.fields.proofs.NumberLaws.{digit_low}
use Rattle.text.proofs.ColumnLaws.{filling-none, filling_step, filling-end}

-- ---- one byte

pub value-dash : (b : ℕ) → b ≡ 45 → 255 ≡ short_value b
unfolding short_value
value-dash b e = rw (eq-eqb b 45 e)

pub value-digit : (b : ℕ) → (b ≡ 45 → ⊥) → b - 48 ≡ short_value b
unfolding short_value
value-digit b e = rw (ne_eqb b 45 e)

digit-of : (b : ℕ) → short_known b ≡ true → (b ≡ 45 → ⊥) → is_digit b ≡ true
unfolding short_known
digit-of b h e = go (is_digit b) refl
  where
    go : (t : Bool) → is_digit b ≡ t → is_digit b ≡ true
    go true q = q
    go false q = absurd (e (eqb-true b 45 (ap (λ (t : Bool). t || eqb b 45) (sym q) ∙ h)))

pub value-sub : (b : ℕ) → short_known b ≡ true → (b ≡ 45 → ⊥) → 48 ≤ b
value-sub b h e = digit_low b (digit-of b h e)

-- a byte that is known is no space
known-no-space : (b : ℕ) → short_known b ≡ true → b ≡ 32 → ⊥
unfolding short_known is_digit
known-no-space b h e = true≢false (sym h ∙ ap (λ (x : ℕ). (leb 48 x && leb x 57) || eqb x 45) e)

pub known_is : (b : ℕ) (d : Bool) → d ≡ is_ascii_digit b → d || eqb b 45 ≡ short_known b
unfolding short_known is_digit
known_is b d e = rw e

pub turned-space : (a b : ℕ) (r : Bool) → a ≡ 32 → r ≡ short_known b → r ≡ turned_bytes a b
unfolding turned_bytes
turned-space a b r e q = rw (eq-eqb a 32 e) q

pub turned-cell : (a b : ℕ) → (a ≡ 32 → ⊥) → eqb b 32 ≡ turned_bytes a b
unfolding turned_bytes
turned-cell a b e = rw (ne_eqb a 32 e)

-- ---- the fold

pub turned_none : (line : List ℕ) (a : ℕ) → true ≡ true → Turned line a a
unfolding Turned
turned_none line a e i h l = absurd (omega arith)

pub turned_more : (line : List ℕ) (a j : ℕ) (ok r : Bool) → (ok ≡ true → Turned line a j)
    → r ≡ turned_bytes (get_or line j 0) (get_or line (j + 1) 0)
    → ok && r ≡ true → Turned line a (j + 1)
unfolding Turned
turned_more line a j ok r f q e i h l = go (lt-cases i j)
  where
    go : (i < j) ⊎ (j ≤ i) → turned_bytes (get_or line i 0) (get_or line (i + 1) 0) ≡ true
    go (inl m) = f ((and-eq-true_iff ok r).0 e).0 i h m
    go (inr m) = let z : i ≡ j = omega arith in ap (λ (x : ℕ). turned_bytes (get_or line x 0) (get_or line (x + 1) 0)) z ∙ sym q
        ∙ ((and-eq-true_iff ok r).0 e).1

pub turned-all : (line : List ℕ) (a n j : ℕ) (ok : Bool) → (ok ≡ true → Turned line a j) → a + n ≤ j → ok ≡ true → Turned line a (a + n)
unfolding Turned
turned-all line a n j ok f h t i l m = f t i l (omega arith)

-- ---- turns from a space on

pub unsaid : {A : Type 0} → false ≡ true → A
unsaid e = absurd (true≢false (sym e))

module _ (line : List ℕ) (start n before : ℕ) (h : start < length line) (q : n ≡ length line - start) (o : n % 2 ≡ 0)
    (b : before + 1 ≡ start)
    (c : get_or line before 0 ≡ 32 → ⊥) where
  module _ (t : Turned line before (before + n)) where
    first-space : get_or line (before + 1) 0 ≡ 32
    unfolding Turned turned_bytes
    first-space =
        eqb-true (get_or line (before + 1) 0) 32
        (ap (λ (x : Bool). cond x (short_known (get_or line (before + 1) 0)) (eqb (get_or line (before + 1) 0) 32)) (sym (ne_eqb
        (get_or line before 0) 32 c))
        ∙ t before (omega arith) (omega arith))

    -- a space, and then a cell
    cell-after : (k : ℕ) → start + 2 * k < length line → get_or line (start + 2 * k) 0 ≡ 32
        → short_known (get_or line (start + 2 * k + 1) 0) ≡ true
    unfolding Turned turned_bytes
    cell-after k l e =
        ap (λ (b : Bool). cond b (short_known (get_or line (start + 2 * k + 1) 0)) (eqb (get_or line (start + 2 * k + 1) 0) 32)) (sym (eq-eqb
        (get_or line (start + 2 * k) 0) 32 e))
        ∙ t (start + 2 * k) (omega arith) (omega arith)

    -- a cell, and then a space
    space-after : (k : ℕ) → start + 2 * k + 2 < length line → short_known (get_or line (start + 2 * k + 1) 0) ≡ true
        → get_or line (start + 2 * k + 1 + 1) 0 ≡ 32
    unfolding Turned turned_bytes
    space-after k l e =
        eqb-true (get_or line (start + 2 * k + 1 + 1) 0) 32
        (ap (λ (b : Bool). cond b (short_known (get_or line (start + 2 * k + 1 + 1) 0)) (eqb (get_or line (start + 2 * k + 1 + 1) 0) 32))
        (sym (ne_eqb (get_or line (start + 2 * k + 1) 0) 32 (known-no-space (get_or line (start + 2 * k + 1) 0) e)))
        ∙ t (start + 2 * k + 1) (omega arith) (omega arith))

    space-at : (k : ℕ) → start + 2 * k < length line → get_or line (start + 2 * k) 0 ≡ 32
    space-at zero l = let z : start + 2 * 0 ≡ before + 1 = omega arith in rw z first-space
    space-at (suc k) l =
        let z : start + 2 * suc k ≡ start + 2 * k + 1 + 1 = omega arith in
        rw z (space-after k (omega arith) (cell-after k (omega arith) (space-at k (omega arith))))

    short-made : Short line start
    short-made = record {
      even = omega arith;
      spaces = space-at;
      known = λ k l. cell-after k l (space-at k l);
    }

  pub short-turns : (r : Bool) → (r ≡ true → Turned line before (before + n)) → r ≡ true → Short line start
  short-turns r f e = short-made (f e)

-- ---- one cell of one byte

module _ (line : List ℕ) (at b : ℕ) (h : at + 2 ≤ length line) (e : b ≡ get_or line (at + 1) 0) (k : short_known b ≡ true)
    (s : at + 2 < length line → get_or line (at + 2) 0 ≡ 32) where
  byte-is : byte_of (b ∷ []) ≡ some (short_value b)
  unfolding short_value
  byte-is = go (eq-cases b 45)
    where
      go : (b ≡ 45) ⊎ (b ≡ 45 → ⊥) → byte_of (b ∷ []) ≡ some (cond (eqb b 45) 255 (b - 48))
      go (inl z) = rw (eq-eqb b 45 z) (byte-dash b z)
      go (inr z) = rw (ne_eqb b 45 z) (byte-digit b (digit-of b k z))

  rest-none : part_at space line (at + 1 + 1) ≡ []
  rest-none = go (lt-cases (at + 2) (length line))
    where
      go : (at + 2 < length line) ⊎ (length line ≤ at + 2) → part_at space line (at + 1 + 1) ≡ []
      go (inl l) = let p : at + 2 ≡ at + 1 + 1 = omega arith in part-here space line (at + 1 + 1) (omega arith) (rw p at (s l))
      go (inr l) = part_end space line (at + 1 + 1) (omega arith)

  short-part : part_at space line (at + 1) ≡ b ∷ []
  short-part =
      part_step space line (at + 1) (omega arith) (λ z. known-no-space b k (e ∙ z)) ∙ rw (rest-none) (ap (λ (x : ℕ). x ∷ []) (sym e))

  short-cell : Some (found (short_value b) (at + 2)) ≡ field_by byte_of line at
  unfolding field_by first_by tag
  short-cell = let p : at + 1 + 1 ≡ at + 2 = omega arith in rw (after-step space line at (omega arith), short-part, byte-is, p)

-- ---- the loop that stores them

pub short_none : (line entry : List ℕ) (start : ℕ) → Filling line start 0 entry entry (start + 2 * 0) 0
short_none line entry start = let z : start + 2 * 0 ≡ start = omega arith in rw z (filling-none line entry start 0)

pub short-known : (line : List ℕ) (start m k : ℕ) → Short line start → m ≡ (length line - start) / 2 → k < m
    → short_known (get_or line (start + 2 * k + 1) 0) ≡ true
short-known line start m k f q l = f.known k (omega (arith, f.even))

module _ (line entry col : List ℕ) (start m k : ℕ) (f : Short line start) (q : m ≡ (length line - start) / 2) where
  pub short-step : (v : ℕ) → Filling line start 0 entry col (start + 2 * k) k → k < m → v ≡ short_value (get_or line (start + 2 * k + 1) 0)
      → Filling line start 0 entry (set col k v) (start + 2 * (k + 1)) (k + 1)
  short-step v g l e =
      let b : ℕ = get_or line (start + 2 * k + 1) 0 in
      let n : start + 2 * k + 2 ≡ start + 2 * (k + 1) = omega arith in
      let w : start + 2 * k + 2 < length line → get_or line (start + 2 * k + 2) 0 ≡ 32
      = λ z. ap (λ (x : ℕ). get_or line x 0) n ∙ f.spaces (k + 1) (omega arith) in
      let r : Filling line start 0 entry (set col k (short_value b)) (start + 2 * k + 2) (k + 1)
      = filling_step line entry col start 0 (start + 2 * k) k g (found (short_value b) (start + 2 * k + 2))
      (short-cell line (start + 2 * k) b (omega (arith, f.even)) refl (short-known line start m k f q l) w) in
      rw (e, ← n) r

  pub short-end : Filling line start 0 entry col (start + 2 * k) k → k ≤ m → m ≤ k → Stored line start entry col (Some m)
  short-end g h l = let z : m ≡ k = omega arith in rw z (filling-end line entry col start (start + 2 * k) k g (omega (arith, f.even)))
