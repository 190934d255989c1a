-- The vectors: those of slots below C, and all while the row count is the first one, are judged at once; else one by one.
use mathlib.Core.Path.{◌≡◌, sym, ap, ap₂, ◌∙◌}
use mathlib.Core.Bool.{Bool, true, false, ◌&&◌}
use mathlib.Core.List.{List}
use Prim.Native.Nat.{ℕ, ◌+◌, ◌-◌, ◌*◌, ◌≤◌, ◌<◌}
use native.Mathlib.Omega.{arith}
use lib.ListN.{length, take, drop}
use Rattle.bits.specs.All.{all_below}
use Rattle.bits.proofs.AllLaws.{all-ext}
use Rattle.bits.specs.Part.{part}
use Rattle.bits.proofs.PartLaws.{part-lent}
use Rattle.bits.specs.Tail.{tail_clear}
use Rattle.bits.specs.Vectors.{vector_at, tails_clear}
use Rattle.tables.specs.declared.clock.Clock.{Clock}
use Rattle.tables.specs.Cells.{values_in, first_in, rows_in, slots_in, slot_stamp, slot_words, rows_in_log}
use Rattle.tables.specs.Clock.{clock_in}
use Rattle.tables.specs.Damage.{all_in, clock_fits, records_fit, slots_fit, vector_fits, vectors_fit}
use Rattle.tables.proofs.Facts.{clock-facts, clock-limits, first-low, rows-high-at}
use Rattle.tables.proofs.Fold.{below_in, in-join}
use Rattle.tables.proofs.Slots.{each_first, slot-stamp-low}
use Rattle.damage.specs.Parts.{StampsLow}

-- vector i as the code lends it
pub one-vector : (first : ℕ) (log slots words : List ℕ) (i s rows : ℕ) (b : Bool) → s ≡ slot_stamp slots i → rows ≡ rows_in_log first log s
    → b ≡ tail_clear (take (32 * i + 32 - 32 * i) (drop (32 * i) words)) rows → b ≡ vector_fits first log slots words i
unfolding vector_fits slot_words part
one-vector first log slots words i s rows b e f q =
    q ∙ ap₂ tail_clear (part-lent (32 * i) 32 words) (f ∙ ap (rows_in_log first log) e)

pub room_for : (words : List ℕ) (n : ℕ) → n ≤ 96 → 3072 ≤ length words → 32 * n ≤ length words
room_for words n h l = omega arith

-- the stamps of slots that fit are stamps of the log
pub stamps-low : (c slots : List ℕ) (n : ℕ) → clock_fits c ≡ true → slots_fit c slots ≡ true → n ≡ slots_in c → StampsLow slots n
unfolding StampsLow
stamps-low c slots n f e o i l = omega (arith, slot-stamp-low c slots e i (omega arith), (clock-limits c f).few-records)

pub stamp-low : (slots : List ℕ) (n i : ℕ) → StampsLow slots n → i < n → slot_stamp slots i ≤ 512
unfolding StampsLow
stamp-low slots n i h l = h i l

-- ---- all vectors, where the records and the slots are sound

module _ (clock log slots words : List ℕ) where
  -- the test of vector i
  abbrev fits : ℕ → Bool
  fits = vector_fits (first_in clock) log slots words

  -- vectors of stamps that have the first row count, all at once
  at_first : (m : ℕ) → ((i : ℕ) → i < m → rows_in_log (first_in clock) log (slot_stamp slots i) ≡ first_in clock)
      → tails_clear words m (first_in clock) ≡ all_below fits m
  unfolding tails_clear vector_at part slot_words vector_fits
  at_first m h = all-ext _ fits m (λ i l. ap (tail_clear (slot_words words i)) (sym (h i l)))

  -- the slots below C, whose stamp is 0, and the later ones
  split : clock_fits clock ≡ true → slots_fit clock slots ≡ true
      → vectors_fit clock log slots words ≡ tails_clear words (values_in clock) (first_in clock) && all_in fits (values_in clock) (slots_in clock)
  unfolding vectors_fit
  split f s =
      let few = (clock-facts clock f).slots-low in
      below_in fits (slots_in clock) ∙ in-join fits 0 (values_in clock) (slots_in clock) (omega arith) few
      ∙ ap (λ (t : Bool). t && all_in fits (values_in clock) (slots_in clock)) (sym (at_first (values_in clock)
      (λ i l. ap (rows_in_log (first_in clock) log) (each_first clock slots s i l (omega arith)).no-stamp) ∙ below_in fits (values_in clock)))

  module _ (c : Clock) (e : c ≡ clock_in clock) (t : Bool) where
    -- the row count is still the first one: row counts never fall, so each stamp has it
    pub one-count : (n : ℕ) → records_fit clock log ≡ true → slots_fit clock slots ≡ true → n ≡ slots_in clock
        → c.rows.0 ≡ c.first.0 → t ≡ tails_clear words n c.first.0 → t ≡ vectors_fit clock log slots words
    unfolding vectors_fit clock_in
    one-count n r s m z q =
        let first : c.first.0 ≡ first_in clock = ap (λ (x : Clock). x.first.0) e in
        let rows : c.rows.0 ≡ rows_in clock = ap (λ (x : Clock). x.rows.0) e in
        q ∙ ap₂ (tails_clear words) m first ∙ at_first (slots_in clock) (λ i l. let low = slot-stamp-low clock slots s i l in
        omega (arith, first-low clock log r (slot_stamp slots i) low, rows-high-at clock log r (slot_stamp slots i) low))

    module _ (f : clock_fits clock ≡ true) (s : slots_fit clock slots ≡ true) (q : t ≡ tails_clear words c.values.0 c.first.0) where
      -- what the code asks, with the numbers that it copied, once the vectors below C are found clear or not
      asked : (b : Bool) → t ≡ b
          → vectors_fit clock log slots words ≡ b && all_in (vector_fits c.first.0 log slots words) c.values.0 (slots_in clock)
      unfolding clock_in
      asked b p =
          let values : c.values.0 ≡ values_in clock = ap (λ (z : Clock). z.values.0) e in
          let first : c.first.0 ≡ first_in clock = ap (λ (z : Clock). z.first.0) e in
          split f s ∙ sym (ap₂ (λ (g h : Bool). g && h) (sym p ∙ q ∙ ap₂ (tails_clear words) values first)
          (ap₂ (λ (m n : ℕ). all_in (vector_fits m log slots words) n (slots_in clock)) first values))

      -- one of them is not clear
      pub first-fails : t ≡ false → t ≡ vectors_fit clock log slots words
      first-fails h = h ∙ sym (asked false h)

      -- all are: the later ones decide
      pub rest-decides : (n : ℕ) (b : Bool) → n ≡ slots_in clock → t ≡ true
          → b ≡ all_in (vector_fits c.first.0 log slots words) c.values.0 n → b ≡ vectors_fit clock log slots words
      rest-decides n b m h w = w ∙ ap (all_in (vector_fits c.first.0 log slots words) c.values.0) m ∙ sym (asked true h)
