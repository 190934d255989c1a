-- "listed once" by the rows that were seen: after i entries, a row's bit is set exactly if one of them has it.
use mathlib.Core.Path.{◌≡◌, refl, sym, ap, ap₂, ◌∙◌, subst}
use mathlib.Core.Bool.{Bool, true, false, not, ◌&&◌, ◌||◌, cond, and-true, or-true}
use mathlib.Core.List.{List}
use Prim.Native.Nat.{ℕ, ◌+◌, ◌/◌, ◌%◌, ◌≤◌, ◌<◌}
use native.Mathlib.Omega.{arith}
use borrow.Author.Tests.{eq-eqb, ne_eqb}
use lib.Dec.{eqb}
use lib.ListN.{length, get_or, take, replicate, length-replicate, get_or-replicate}
use Rattle.std.proofs.lemmas.List.{get_or-take}
use Rattle.std.proofs.Common.{length-take}
use Rattle.bits.specs.All.{all_below}
use Rattle.bits.proofs.AllLaws.{all_of, all_none, all_more}
use Rattle.bits.specs.Bit.{bit}
use Rattle.bits.proofs.BitLaws.{bit-of-zero}
use Rattle.bits.specs.Words.{bit_at, put_at}
use Rattle.bits.proofs.WordLaws.{length-put, bit_at-put}
use Rattle.tables.specs.Damage.{all_in}
use Rattle.session_damage.specs.Parts.{once_in, RowsLow}
use Rattle.tables.proofs.Fold.{scan-again, scan-fails}

-- entry j does not have row r
abbrev other : List ℕ → ℕ → ℕ → Bool
other at r j = not (eqb (get_or at j 0) r)

-- the rows that the first i entries have
pub record Seen (at : List ℕ) (i : ℕ) (seen : List ℕ) : Type 0 where
  pub words : length seen ≡ 32
  pub rows : (r : ℕ) → r < 2048 → not (bit_at seen r) ≡ all_below (other at r) i

-- none yet
pub seen_none : (at : List ℕ) → Seen at 0 (replicate 32 0)
unfolding bit_at
seen_none at = record {
  words = length-replicate {A = ℕ} 32 0;
  rows =
      λ r h. ap (λ (w : ℕ). not (bit w (r % 64))) (get_or-replicate 32 (r / 64) 0 0 (omega arith)) ∙ ap not (bit-of-zero (r % 64))
      ∙ sym (all_none (other at r));
}

module _ (at : List ℕ) (i : ℕ) (seen : List ℕ) (s : Seen at i seen) where
  -- an insert has no row
  pub seen-insert : get_or at i 0 ≡ 65535 → Seen at (i + 1) seen
  seen-insert e = record {
    words = s.words;
    rows = λ r h. s.rows r h ∙ sym (and-true (all_below (other at r) i))
        ∙ ap (λ (t : Bool). all_below (other at r) i && not t) (sym (ne_eqb (get_or at i 0) r (λ z. omega arith)))
        ∙ sym (all_more (other at r) i);
  }

  -- an entry's row is set
  pub seen-row : (row : ℕ) (next : List ℕ) → row ≡ get_or at i 0 → row < 2048 → next ≡ put_at seen row true → Seen at (i + 1) next
  seen-row row next e l p = record {
    words = ap length p ∙ length-put seen row true ∙ s.words;
    rows = λ r h. ap (λ (ws : List ℕ). not (bit_at ws r)) p ∙ ap not (bit_at-put true seen row (omega (arith, s.words)) r)
        ∙ turn (eqb row r) (bit_at seen r) ∙ ap₂ (λ (x y : Bool). x && y) (s.rows r h) (ap (λ (x : ℕ). not (eqb x r)) e)
        ∙ sym (all_more (other at r) i);
  }
    where
      turn : (x y : Bool) → not (cond x true y) ≡ not y && not x
      turn true true = refl
      turn true false = refl
      turn false true = refl
      turn false false = refl

  -- the test of an insert, and of a row
  pub once-insert : get_or at i 0 ≡ 65535 → true ≡ once_in at i
  unfolding once_in
  once-insert e = sym (ap (λ (t : Bool). t || all_below (other at (get_or at i 0)) i) (eq-eqb (get_or at i 0) 65535 e))

  pub once-row : (row : ℕ) (b : Bool) → row ≡ get_or at i 0 → row < 2048 → b ≡ bit_at seen row → not b ≡ once_in at i
  unfolding once_in
  once-row row b e l q =
      ap not q ∙ s.rows row l ∙ ap (λ (x : ℕ). all_below (other at x) i) e
      ∙ ap (λ (t : Bool). t || all_below (other at (get_or at i 0)) i) (sym (ne_eqb (get_or at i 0) 65535 (λ z. omega arith)))

-- ---- the loop over the first n entries, where x is the row of entry i: the whole is the rest from entry i on

-- one of the first n entries
pub record Entry (at : List ℕ) (n i x : ℕ) : Type 0 where
  pub in_list : i < n
  pub stands : x ≡ get_or at i 0

pub entry-at : (at : List ℕ) (n i : ℕ) → n ≤ 32 → length at ≡ 32 → i < length (take n at) → Entry at n i (get_or (take n at) i 0)
entry-at at n i h e l =
    let k : i < n = omega (arith, length-take n at) in
    record { in_list = k; stands = get_or-take n at i 0 k }

-- a row below 2,048, as a vector of rows needs
pub row_low : (at : List ℕ) (n i x row : ℕ) → row ≡ x → (x ≡ 65535 → ⊥) → Entry at n i x → RowsLow at n → row < 2048
unfolding RowsLow
row_low at n i x row e m k h = omega (arith, h i k.in_list (λ z. m (k.stands ∙ z)), k.stands)

module _ (at : List ℕ) (n i x : ℕ) (seen : List ℕ) (w : Bool) (e : w ≡ all_in (once_in at) i n) (s : Seen at i seen)
    (k : Entry at n i x) where
  -- an insert
  pub insert-rest : x ≡ 65535 → w ≡ all_in (once_in at) (i + 1) n
  insert-rest h = scan-again (once_in at) w true i n e k.in_list (once-insert at i seen s (sym k.stands ∙ h)) refl

  pub insert-seen : (next : List ℕ) → x ≡ 65535 → next ≡ seen → Seen at (i + 1) next
  insert-seen next h q = subst (λ (ws : List ℕ). Seen at (i + 1) ws) (sym q) (seen-insert at i seen s (sym k.stands ∙ h))

  module _ (row : ℕ) (b : Bool) (o : RowsLow at n) (h : x ≡ 65535 → ⊥) (r : row ≡ x) (q : b ≡ bit_at seen row) where
    tested : not b ≡ once_in at i
    tested = once-row at i seen s row b (r ∙ k.stands) (row_low at n i x row r h k o) q

    -- a row that was seen
    pub row-twice : b ≡ true → false ≡ w
    row-twice y = scan-fails (once_in at) w (not b) i n e k.in_list tested (ap (λ (t : Bool). not (not t)) y)

    -- a row that was not
    pub row-rest : b ≡ false → w ≡ all_in (once_in at) (i + 1) n
    row-rest y = scan-again (once_in at) w (not b) i n e k.in_list tested (ap (λ (t : Bool). not (not t)) y)

    pub row_seen : (put next : List ℕ) → put ≡ put_at seen row true → next ≡ put → Seen at (i + 1) next
    row_seen put next p f = seen-row at i seen s row next (r ∙ k.stands) (row_low at n i x row r h k o) (f ∙ p)

-- a list of at most one entry
pub once-few : (at : List ℕ) (n : ℕ) → n < 2 → all_below (once_in at) n ≡ true
unfolding once_in
once-few at n h =
    all_of (once_in at) n
    (λ i l. let z : i ≡ 0 = omega arith in
    ap (once_in at) z ∙ ap (λ (t : Bool). eqb (get_or at 0 0) 65535 || t) (all_none (other at (get_or at 0 0)))
    ∙ or-true (eqb (get_or at 0 0) 65535))
