-- The slots below C and the later ones, and a link that is looked at a step at a time.
use mathlib.Core.Path.{◌≡◌, refl, sym, ap, ap₂, ◌∙◌}
use mathlib.Core.Bool.{Bool, true, false, not, ◌&&◌, cond}
use mathlib.Core.List.{List}
use Prim.Native.Nat.{ℕ, ◌+◌, ◌-◌}
use native.Mathlib.Omega.{arith}
use borrow.Author.Tests.{lt-ltb, le-ltb}
use lib.Dec.{leb, eqb, ltb}
use lib.ListN.{get_or}
use Rattle.bits.specs.All.{all_below}
use Rattle.tables.specs.declared.clock.Clock.{Clock}
use Rattle.tables.specs.Cells.{values_in, stamp_in, slots_in, slot_value, slot_stamp, slot_link}
use Rattle.tables.specs.Clock.{clock_in}
use Rattle.tables.specs.Damage.{all_in, clock_fits, first_slot_fits, later_slot_fits, slot_fits, slots_fit, head_fits, heads_fit}
use Rattle.tables.proofs.Facts.{clock-facts}
use Rattle.damage.specs.Parts.{link_fits}
use Rattle.tables.proofs.Fold.{below_in, in-join, in-ext}

-- ---- a later slot

one-before : (x a b c d : Bool) → x && (a && b && c && d) ≡ x && a && b && c && d
one-before true a b c d = refl
one-before false a b c d = refl

-- a later slot: its value and its stamp, and its link
pub later-slot : (values last : ℕ) (slots : List ℕ) (i : ℕ) (b : Bool) → b ≡ link_fits slots i
    → ltb (get_or slots i 0) values && leb (get_or slots (96 + i) 0) last && b ≡ later_slot_fits values last slots i
unfolding link_fits later_slot_fits
later-slot values last slots i b e =
    ap (λ (t : Bool). ltb (slot_value slots i) values && leb (slot_stamp slots i) last && t) e
    ∙ one-before (ltb (slot_value slots i) values && leb (slot_stamp slots i) last) (not (eqb (slot_link slots i) 0))
    (leb (slot_link slots i) i)
    (eqb (slot_value slots (slot_link slots i - 1)) (slot_value slots i)) (ltb (slot_stamp slots (slot_link slots i - 1)) (slot_stamp slots i))

-- ---- all slots

module _ (clock slots : List ℕ) (f : clock_fits clock ≡ true) where
  abbrev any : ℕ → Bool
  any = slot_fits (values_in clock) (stamp_in clock) slots

  abbrev later : ℕ → Bool
  later = later_slot_fits (values_in clock) (stamp_in clock) slots

  choose : (i : ℕ) (t : Bool) → ltb i (values_in clock) ≡ t → any i ≡ cond t (first_slot_fits slots i) (later i)
  unfolding slot_fits
  choose i t e = ap (λ (x : Bool). cond x (first_slot_fits slots i) (later i)) e

  slots-split : slots_fit clock slots ≡ all_below (first_slot_fits slots) (values_in clock) && all_in later (values_in clock) (slots_in clock)
  unfolding slots_fit
  slots-split =
      below_in any (slots_in clock)
      ∙ in-join any 0 (values_in clock) (slots_in clock) (omega arith) (clock-facts clock f).slots-low
      ∙ ap₂ (λ (x y : Bool). x && y)
      (in-ext any (first_slot_fits slots) 0 (values_in clock) (λ i h l. choose i true (lt-ltb i (values_in clock) l))
      ∙ sym (below_in (first_slot_fits slots) (values_in clock)))
      (in-ext any later (values_in clock) (slots_in clock) (λ i h l. choose i false (le-ltb i (values_in clock) h)))

  -- what the code asks, with the numbers that it copied
  pub all_slots : (c : Clock) (used : ℕ) (a b : Bool) → c ≡ clock_in clock → used ≡ slots_in clock
      → a ≡ all_below (first_slot_fits slots) c.values.0 → b ≡ all_in (later_slot_fits c.values.0 c.stamp.0 slots) c.values.0 used
      → a && b ≡ slots_fit clock slots
  unfolding clock_in
  all_slots c used a b e i p q =
      let x : c.values.0 ≡ values_in clock = ap (λ (k : Clock). k.values.0) e in
      let y : c.stamp.0 ≡ stamp_in clock = ap (λ (k : Clock). k.stamp.0) e in
      ap₂ (λ (m n : Bool). m && n) (p ∙ ap (all_below (first_slot_fits slots)) x)
      (q ∙ ap₂ (λ (m n : ℕ). all_in (later_slot_fits m n slots) m used) x y ∙ ap (all_in later (values_in clock)) i) ∙ sym slots-split

-- ---- heads

pub all-heads : (clock slots heads : List ℕ) (used : ℕ) → used ≡ slots_in clock
    → heads_fit clock slots heads ≡ all_in (head_fits used slots heads) 0 (values_in clock)
unfolding heads_fit
all-heads clock slots heads used e =
    below_in (head_fits (slots_in clock) slots heads) (values_in clock)
    ∙ ap (λ (k : ℕ). all_in (head_fits k slots heads) 0 (values_in clock)) (sym e)
