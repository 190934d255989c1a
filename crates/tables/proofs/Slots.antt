-- What slots, heads and vectors that are not damaged have, as facts on numbers.
use mathlib.Core.Path.{◌≡◌, sym, ap, ◌∙◌, subst}
use mathlib.Core.Bool.{true, false, not}
use mathlib.Core.List.{List}
use mathlib.Core.Logic.{⊎_elim}
use Prim.Native.Nat.{ℕ, ◌+◌, ◌-◌, ◌*◌, ◌^◌, ◌≤◌, ◌<◌}
use native.Mathlib.Nat.{pos_of_ne-zero}
use native.Mathlib.Omega.{arith}
use borrow.Author.Tests.{eqb-false, ne_eqb, lt-ltb, le-ltb, not-true}
use lib.Dec.{eqb, lit<}
use lib.ListN.{length, take, drop, length-take, length-drop, get_or-eq_default}
use lib.Seq.{get_or-take, get_or-drop}
use Rattle.bits.proofs.Cases.{lt-cases}
use Rattle.bits.specs.Words.{bit_at, Words}
use Rattle.bits.proofs.AllLaws.{all-at, all_of}
use Rattle.bits.specs.Tail.{tail_clear}
use Rattle.bits.proofs.TailLaws.{tail-bits}
use Rattle.tables.specs.Cells.{values_in, first_in, stamp_in, slots_in, slot_value, slot_stamp, slot_link, slot_words, head_of, rows_in_log}
use Rattle.tables.specs.Damage.{first_slot_fits, later_slot_fits, slot_fits, slots_fit, head_fits, heads_fit, vector_fits, vectors_fit}
use Rattle.tables.proofs.Tests.{told, made}

-- ---- slots

-- slot i below C
pub record FirstSlot (slots : List ℕ) (i : ℕ) : Type 0 where
  pub own_value : slot_value slots i ≡ i
  pub no-stamp : slot_stamp slots i ≡ 0
  pub no-link : slot_link slots i ≡ 0

-- a later slot
pub record LaterSlot (values stamp : ℕ) (slots : List ℕ) (i : ℕ) : Type 0 where
  pub value_low : slot_value slots i < values
  pub stamp-low : slot_stamp slots i ≤ stamp
  pub linked : 0 < slot_link slots i
  pub link-low : slot_link slots i ≤ i
  pub link-value : slot_value slots (slot_link slots i - 1) ≡ slot_value slots i
  pub link-stamp : slot_stamp slots (slot_link slots i - 1) < slot_stamp slots i

pub first-facts : (slots : List ℕ) (i : ℕ) → first_slot_fits slots i ≡ true → FirstSlot slots i
unfolding first_slot_fits
first-facts slots i e = search told

pub first_made : (slots : List ℕ) (i : ℕ) → FirstSlot slots i → first_slot_fits slots i ≡ true
unfolding first_slot_fits
first_made slots i f = search made

positive : (n : ℕ) → not (eqb n 0) ≡ true → 0 < n
positive n e = pos_of_ne-zero (eqb-false n 0 (not-true (eqb n 0) e))

not-zero : (n : ℕ) → 0 < n → not (eqb n 0) ≡ true
not-zero n h = ap not (ne_eqb n 0 (λ e. omega arith))

pub later-facts : (values stamp : ℕ) (slots : List ℕ) (i : ℕ) → later_slot_fits values stamp slots i ≡ true → LaterSlot values stamp slots i
unfolding later_slot_fits
later-facts values stamp slots i e = search (told, positive) depth 12

pub later-made : (values stamp : ℕ) (slots : List ℕ) (i : ℕ) → LaterSlot values stamp slots i → later_slot_fits values stamp slots i ≡ true
unfolding later_slot_fits
later-made values stamp slots i f = search (made, not-zero) depth 12

-- any slot: its link falls, it has none only at stamp 0, and a link keeps the value and lowers the stamp
pub record SlotFacts (values stamp : ℕ) (slots : List ℕ) (i : ℕ) : Type 0 where
  pub value_low : slot_value slots i < values
  pub stamp-low : slot_stamp slots i ≤ stamp
  pub link-low : slot_link slots i ≤ i
  pub unlinked : slot_link slots i ≡ 0 → slot_stamp slots i ≡ 0
  pub link-value : 0 < slot_link slots i → slot_value slots (slot_link slots i - 1) ≡ slot_value slots i
  pub link-stamp : 0 < slot_link slots i → slot_stamp slots (slot_link slots i - 1) < slot_stamp slots i

slot-first : (values stamp : ℕ) (slots : List ℕ) (i : ℕ) → i < values → FirstSlot slots i → SlotFacts values stamp slots i
slot-first values stamp slots i h f = record {
  value_low = omega (arith, f.own_value);
  stamp-low = omega (arith, f.no-stamp);
  link-low = omega (arith, f.no-link);
  unlinked = λ z. f.no-stamp;
  link-value = λ p. absurd (omega (arith, f.no-link));
  link-stamp = λ p. absurd (omega (arith, f.no-link));
}

slot-later : (values stamp : ℕ) (slots : List ℕ) (i : ℕ) → LaterSlot values stamp slots i → SlotFacts values stamp slots i
slot-later values stamp slots i f = record {
  value_low = f.value_low;
  stamp-low = f.stamp-low;
  link-low = f.link-low;
  unlinked = λ z. absurd (omega (arith, f.linked));
  link-value = λ p. f.link-value;
  link-stamp = λ p. f.link-stamp;
}

module _ (c slots : List ℕ) where
  slot_at : slots_fit c slots ≡ true → (i : ℕ) → i < slots_in c → slot_fits (values_in c) (stamp_in c) slots i ≡ true
  unfolding slots_fit
  slot_at e i l = all-at (slot_fits (values_in c) (stamp_in c) slots) (slots_in c) e i l

  pub each_first : slots_fit c slots ≡ true → (i : ℕ) → i < values_in c → i < slots_in c → FirstSlot slots i
  unfolding slot_fits
  each_first e i h l = first-facts slots i (rw (lt-ltb i (values_in c) h) at (slot_at e i l))

  pub each-later : slots_fit c slots ≡ true → (i : ℕ) → values_in c ≤ i → i < slots_in c → LaterSlot (values_in c) (stamp_in c) slots i
  unfolding slot_fits
  each-later e i h l = later-facts (values_in c) (stamp_in c) slots i (rw (le-ltb i (values_in c) h) at (slot_at e i l))

  pub each-slot : slots_fit c slots ≡ true → (i : ℕ) → i < slots_in c → SlotFacts (values_in c) (stamp_in c) slots i
  each-slot e i l =
      ⊎_elim (λ (h : i < values_in c). slot-first (values_in c) (stamp_in c) slots i h (each_first e i h l))
      (λ (h : values_in c ≤ i). slot-later (values_in c) (stamp_in c) slots i (each-later e i h l)) (lt-cases i (values_in c))

  pub slots-made : ((i : ℕ) → i < values_in c → i < slots_in c → FirstSlot slots i)
      → ((i : ℕ) → values_in c ≤ i → i < slots_in c → LaterSlot (values_in c) (stamp_in c) slots i) → slots_fit c slots ≡ true
  unfolding slots_fit slot_fits
  slots-made f g =
      all_of (slot_fits (values_in c) (stamp_in c) slots) (slots_in c)
      (λ i l. ⊎_elim (λ (h : i < values_in c). rw (lt-ltb i (values_in c) h) (first_made slots i (f i h l)))
      (λ (h : values_in c ≤ i). rw (le-ltb i (values_in c) h) (later-made (values_in c) (stamp_in c) slots i (g i h l)))
      (lt-cases i (values_in c)))

-- the links are below the slots in use, along them the value stays and the stamp falls
module _ (c slots : List ℕ) (e : slots_fit c slots ≡ true) (i : ℕ) (l : i < slots_in c) where
  pub link-falls : slot_link slots i ≤ i
  link-falls = (each-slot c slots e i l).link-low

  pub link-used : 0 < slot_link slots i → slot_link slots i - 1 < slots_in c
  link-used p = omega (arith, link-falls)

  pub unlinked-old : slot_link slots i ≡ 0 → slot_stamp slots i ≡ 0
  unlinked-old = (each-slot c slots e i l).unlinked

  pub link-same-value : 0 < slot_link slots i → slot_value slots (slot_link slots i - 1) ≡ slot_value slots i
  link-same-value = (each-slot c slots e i l).link-value

  pub link-older : 0 < slot_link slots i → slot_stamp slots (slot_link slots i - 1) < slot_stamp slots i
  link-older = (each-slot c slots e i l).link-stamp

  pub slot-stamp-low : slot_stamp slots i ≤ stamp_in c
  slot-stamp-low = (each-slot c slots e i l).stamp-low

-- ---- heads

-- the head of v
pub record HeadFacts (used : ℕ) (slots heads : List ℕ) (v : ℕ) : Type 0 where
  pub head-low : head_of heads v < used
  pub head-value : slot_value slots (head_of heads v) ≡ v

pub head-facts : (used : ℕ) (slots heads : List ℕ) (v : ℕ) → head_fits used slots heads v ≡ true → HeadFacts used slots heads v
unfolding head_fits
head-facts used slots heads v e = search told

pub head-made : (used : ℕ) (slots heads : List ℕ) (v : ℕ) → HeadFacts used slots heads v → head_fits used slots heads v ≡ true
unfolding head_fits
head-made used slots heads v f = search made

module _ (c slots heads : List ℕ) where
  pub each-head : heads_fit c slots heads ≡ true → (v : ℕ) → v < values_in c → HeadFacts (slots_in c) slots heads v
  unfolding heads_fit
  each-head e v l = head-facts (slots_in c) slots heads v (all-at (head_fits (slots_in c) slots heads) (values_in c) e v l)

  pub heads-made : ((v : ℕ) → v < values_in c → HeadFacts (slots_in c) slots heads v) → heads_fit c slots heads ≡ true
  unfolding heads_fit
  heads-made h = all_of (head_fits (slots_in c) slots heads) (values_in c) (λ v l. head-made (slots_in c) slots heads v (h v l))

-- ---- vectors

part_length : (n a : ℕ) (l : List ℕ) → a + n ≤ length l → length (take n (drop a l)) ≡ n
part_length n a l h = simp (length-take, length-drop) (omega arith)

pub length-slot_words : (words : List ℕ) (i : ℕ) → i < 96 → 3072 ≤ length words → length (slot_words words i) ≡ 32
unfolding slot_words
length-slot_words words i h room = part_length 32 (32 * i) words (omega arith)

part-words : (n a : ℕ) (l : List ℕ) → Words l → Words (take n (drop a l))
part-words n a l w i =
    ⊎_elim (λ (h : i < n). subst (λ (x : ℕ). x < 2 ^ 64) (sym (get_or-take n (drop a l) i 0 h ∙ get_or-drop a l i 0)) (w (a + i)))
    (λ (h : n ≤ i). subst (λ (x : ℕ). x < 2 ^ 64)
    (sym (get_or-eq_default (take n (drop a l)) 0 (omega (arith, length-take n (drop a l))))) (lit< tt)) (lt-cases i n)

pub words-slot_words : (words : List ℕ) (i : ℕ) → Words words → Words (slot_words words i)
unfolding slot_words
words-slot_words words i w = part-words 32 (32 * i) words w

module _ (c log slots words : List ℕ) where
  pub each-vector : vectors_fit c log slots words ≡ true → (i : ℕ) → i < slots_in c
      → tail_clear (slot_words words i) (rows_in_log (first_in c) log (slot_stamp slots i)) ≡ true
  unfolding vectors_fit vector_fits
  each-vector e i l = all-at (vector_fits (first_in c) log slots words) (slots_in c) e i l

  pub vector-bits : vectors_fit c log slots words ≡ true → (i : ℕ) → i < slots_in c
      → (r : ℕ) → rows_in_log (first_in c) log (slot_stamp slots i) ≤ r → bit_at (slot_words words i) r ≡ false
  vector-bits e i l = tail-bits (slot_words words i) (rows_in_log (first_in c) log (slot_stamp slots i)) (each-vector e i l)

  pub vectors-made : ((i : ℕ) → i < slots_in c → tail_clear (slot_words words i) (rows_in_log (first_in c) log (slot_stamp slots i)) ≡ true)
      → vectors_fit c log slots words ≡ true
  unfolding vectors_fit vector_fits
  vectors-made h = all_of (vector_fits (first_in c) log slots words) (slots_in c) h
