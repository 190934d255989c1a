-- What tables that are not refused by 1 and 2 have, as facts on numbers: room, clock, records and changes.
use mathlib.Core.Path.{◌≡◌, sym, ap, ◌∙◌}
use mathlib.Core.Bool.{Bool, true, ◌||◌}
use mathlib.Core.List.{List}
use mathlib.Core.Logic.{◌⊎◌, inl, inr, ⊎_elim}
use Prim.Native.Nat.{ℕ, zero, suc, ◌+◌, ◌-◌, ◌^◌, ◌≤◌, ◌<◌}
use native.Mathlib.Nat.{eq-or-lt_of_le, le_of_suc-le-suc}
use native.Mathlib.Numerals.{add-one}
use native.Mathlib.Omega.{arith}
use borrow.Author.Tests.{eqb-true, eq-eqb}
use lib.Dec.{eqb}
use lib.ListN.{length}
use Rattle.bits.proofs.Cases.{lt-cases}
use Rattle.bits.specs.All.{all_below}
use Rattle.bits.proofs.AllLaws.{all-at, all_of}
use Rattle.rules.specs.Limits.{max_values, max_rows, max_slots, max_records, max_changes}
use Rattle.tables.specs.Cells.{Tables, values_in, first_in, stamp_in, rows_in, slots_in, changes_in, record_stamp, record_kind}
use Rattle.tables.specs.Cells.{record_end, rows_in_log, end_at, change_row, change_set}
use Rattle.tables.specs.Room.{room_for, roomy, Roomy}
use Rattle.tables.specs.Damage.{clock_fits, record_fits, records_fit, all_in, change_fits, record_changes_fit, changes_fit, slots_fit}
use Rattle.tables.specs.Damage.{heads_fit, vectors_fit, sessions_fit, sound}
use Rattle.tables.proofs.Tests.{told, made, either, or_left, or_right}

-- ---- room

-- what `numbers_fit` requires
pub room-lengths : (clock slots words heads log changes : List ℕ) (places : ℕ) → room_for clock slots words heads log changes places ≡ true
    → Roomy clock slots words heads log changes
unfolding room_for
room-lengths clock slots words heads log changes places e = search told depth 12

-- no table is short
pub record Room (t : Tables) : Type 0 where
  pub clock-room : 6 ≤ length t.clock
  pub slots-room : 288 ≤ length t.slots
  pub words-room : 3072 ≤ length t.words
  pub heads-room : 32 ≤ length t.heads
  pub log-room : 2048 ≤ length t.log
  pub changes-room : 4096 ≤ length t.changes
  pub sessions-room : 16 ≤ length t.sessions

module _ (t : Tables) where
  pub room-facts : roomy t ≡ true → Room t
  unfolding roomy room_for
  room-facts e = search told depth 12

  pub room-made : Room t → roomy t ≡ true
  unfolding roomy room_for
  room-made r = search made depth 12

  -- by the session table's length
  pub room-is : (places : ℕ) → places ≡ length t.sessions
      → room_for t.clock t.slots t.words t.heads t.log t.changes places ≡ roomy t
  unfolding roomy
  room-is places e = ap (room_for t.clock t.slots t.words t.heads t.log t.changes) e

-- ---- the seven parts of "Damaged tables"

-- a field for each table's sentences
pub record Parts (t : Tables) : Type 0 where
  pub clock-fits : clock_fits t.clock ≡ true
  pub records-fit : records_fit t.clock t.log ≡ true
  pub changes-fit : changes_fit t.clock t.log t.changes ≡ true
  pub slots-fit : slots_fit t.clock t.slots ≡ true
  pub heads-fit : heads_fit t.clock t.slots t.heads ≡ true
  pub vectors-fit : vectors_fit t.clock t.log t.slots t.words ≡ true
  pub sessions-fit : sessions_fit t.clock t.log t.sessions ≡ true

pub parts : (t : Tables) → sound t ≡ true → Parts t
unfolding sound
parts t e = search told depth 12

pub whole : (t : Tables) → Parts t → sound t ≡ true
unfolding sound
whole t p = search made depth 12

-- ---- the clock

-- the clock's sentence
pub record ClockFacts (c : List ℕ) : Type 0 where
  pub values_low : 1 ≤ values_in c
  pub values-high : values_in c ≤ max_values
  pub rows-high : rows_in c ≤ max_rows
  pub first-high : first_in c ≤ max_rows
  pub stamp-high : stamp_in c ≤ max_records
  pub slots-low : values_in c ≤ slots_in c
  pub slots-high : slots_in c ≤ max_slots
  pub changes-high : changes_in c ≤ max_changes

pub clock-facts : (c : List ℕ) → clock_fits c ≡ true → ClockFacts c
unfolding clock_fits
clock-facts c e = search told depth 12

pub clock-made : (c : List ℕ) → ClockFacts c → clock_fits c ≡ true
unfolding clock_fits
clock-made c f = search made depth 12

-- the limits as the numbers that code meets
pub record ClockLimits (c : List ℕ) : Type 0 where
  pub few-values : values_in c ≤ 32
  pub few-rows : rows_in c ≤ 2048
  pub few-first : first_in c ≤ 2048
  pub few-records : stamp_in c ≤ 512
  pub few-slots : slots_in c ≤ 96
  pub few-changes : changes_in c ≤ 2048

pub clock-limits : (c : List ℕ) → clock_fits c ≡ true → ClockLimits c
unfolding max_values max_rows max_records max_slots max_changes
clock-limits c e = let f = clock-facts c e in search

-- ---- the records

-- what does not fall from one place to the next does not fall
rises : (g : ℕ → ℕ) (n : ℕ) → ((k : ℕ) → k < n → g k ≤ g (suc k)) → (a b : ℕ) → a ≤ b → b ≤ n → g a ≤ g b
rises g n h a zero p q = let z : a ≡ 0 = omega arith in rw z (omega arith)
rises g n h a (suc b) p q = go (eq-or-lt_of_le p) (λ l. rises g n h a b l (omega arith))
  where
    go : (a ≡ suc b) ⊎ (a < suc b) → (a ≤ b → g a ≤ g b) → g a ≤ g (suc b)
    go (inl z) ih = rw z (omega arith)
    go (inr l) ih = omega (arith, ih (le_of_suc-le-suc l), h b q)

-- the record after stamp k, as code counts
pub end-next : (log : List ℕ) (k : ℕ) → end_at log (k + 1) ≡ record_end log k
end-next log k = ap (end_at log) (add-one k)

-- the record after stamp k
pub record RecordFacts (first : ℕ) (log : List ℕ) (k : ℕ) : Type 0 where
  pub bears : record_stamp log k ≡ k + 1
  pub kinds : (record_kind log k ≡ 1) ⊎ (record_kind log k ≡ 2)
  pub rows-rise : rows_in_log first log k ≤ rows_in_log first log (suc k)
  pub ends-rise : end_at log k ≤ end_at log (suc k)

kind-cases : (n : ℕ) → eqb n 1 || eqb n 2 ≡ true → (n ≡ 1) ⊎ (n ≡ 2)
kind-cases n e = ⊎_elim (λ p. inl (eqb-true n 1 p)) (λ p. inr (eqb-true n 2 p)) (either _ _ e)

pub kind-made : (n : ℕ) → (n ≡ 1) ⊎ (n ≡ 2) → eqb n 1 || eqb n 2 ≡ true
kind-made n (inl e) = or_left (eqb n 1) (eqb n 2) (eq-eqb n 1 e)
kind-made n (inr e) = or_right (eqb n 1) (eqb n 2) (eq-eqb n 2 e)

pub record-facts : (first : ℕ) (log : List ℕ) (k : ℕ) → record_fits first log k ≡ true → RecordFacts first log k
unfolding record_fits
record-facts first log k e = search (told, kind-cases) depth 12

pub record-made : (first : ℕ) (log : List ℕ) (k : ℕ) → RecordFacts first log k → record_fits first log k ≡ true
unfolding record_fits
record-made first log k f = search (made, kind-made) depth 12

module _ (c log : List ℕ) where
  pub records-made : ((k : ℕ) → k < stamp_in c → RecordFacts (first_in c) log k) → end_at log (stamp_in c) ≡ changes_in c
      → rows_in_log (first_in c) log (stamp_in c) ≡ rows_in c → records_fit c log ≡ true
  unfolding records_fit
  records-made h p q = search (made, all_of, record-made) depth 12

module _ (c log : List ℕ) (e : records_fit c log ≡ true) where
  three : (all_below (record_fits (first_in c) log) (stamp_in c) ≡ true) × (end_at log (stamp_in c) ≡ changes_in c)
      × (rows_in_log (first_in c) log (stamp_in c) ≡ rows_in c)
  unfolding records_fit
  three = search told depth 12

  pub each-record : (k : ℕ) → k < stamp_in c → RecordFacts (first_in c) log k
  each-record k l = record-facts (first_in c) log k (all-at (record_fits (first_in c) log) (stamp_in c) three.0 k l)

  pub last_end : end_at log (stamp_in c) ≡ changes_in c
  last_end = three.1

  pub last-rows : rows_in_log (first_in c) log (stamp_in c) ≡ rows_in c
  last-rows = three.2

  pub ends-order : (a b : ℕ) → a ≤ b → b ≤ stamp_in c → end_at log a ≤ end_at log b
  ends-order = rises (end_at log) (stamp_in c) (λ k l. (each-record k l).ends-rise)

  pub rows-order : (a b : ℕ) → a ≤ b → b ≤ stamp_in c → rows_in_log (first_in c) log a ≤ rows_in_log (first_in c) log b
  rows-order = rises (rows_in_log (first_in c) log) (stamp_in c) (λ k l. (each-record k l).rows-rise)

  -- the ends lie in the change table, the row counts are at most the current one
  pub end-high : (s : ℕ) → s ≤ stamp_in c → end_at log s ≤ changes_in c
  end-high s h = omega (arith, ends-order s (stamp_in c) h (omega arith), last_end)

  pub rows-high-at : (s : ℕ) → s ≤ stamp_in c → rows_in_log (first_in c) log s ≤ rows_in c
  rows-high-at s h = omega (arith, rows-order s (stamp_in c) h (omega arith), last-rows)

  pub first-low : (s : ℕ) → s ≤ stamp_in c → first_in c ≤ rows_in_log (first_in c) log s
  first-low s h = rows-order 0 s (omega arith) h

-- ---- a test at every place of a stretch

pub in-at : (p : ℕ → Bool) (a b : ℕ) → all_in p a b ≡ true → (j : ℕ) → a ≤ j → j < b → p j ≡ true
unfolding all_in
in-at p a b e j l m = let q : a + (j - a) ≡ j = omega arith in ap p (sym q) ∙ all-at (λ k. p (a + k)) (b - a) e (j - a) (omega arith)

pub in-of : (p : ℕ → Bool) (a b : ℕ) → ((j : ℕ) → a ≤ j → j < b → p j ≡ true) → all_in p a b ≡ true
unfolding all_in
in-of p a b h = all_of (λ k. p (a + k)) (b - a) (λ k l. h (a + k) (omega arith) (omega arith))

-- ---- the changes

-- change p of a record with that many rows
pub record ChangeFacts (changes : List ℕ) (values rows p : ℕ) : Type 0 where
  pub row_low : change_row changes p < rows
  pub set-low : change_set changes p < 2 ^ values

pub change-facts : (changes : List ℕ) (values rows p : ℕ) → change_fits changes values rows p ≡ true → ChangeFacts changes values rows p
unfolding change_fits
change-facts changes values rows p e = search told

pub change-made : (changes : List ℕ) (values rows p : ℕ) → ChangeFacts changes values rows p → change_fits changes values rows p ≡ true
unfolding change_fits
change-made changes values rows p f = search made

module _ (c log changes : List ℕ) where
  -- each change of the record after stamp k
  pub each-change : changes_fit c log changes ≡ true → (k p : ℕ) → k < stamp_in c → end_at log k ≤ p → p < end_at log (suc k)
      → ChangeFacts changes (values_in c) (rows_in_log (first_in c) log (suc k)) p
  unfolding changes_fit record_changes_fit
  each-change e k p l m n =
      let rows = rows_in_log (first_in c) log (suc k) in
      change-facts changes (values_in c) rows p
      (in-at (change_fits changes (values_in c) rows) (end_at log k) (end_at log (suc k))
      (all-at (record_changes_fit c log changes) (stamp_in c) e k l) p m n)

  pub changes-made : ((k p : ℕ) → k < stamp_in c → end_at log k ≤ p → p < end_at log (suc k)
      → ChangeFacts changes (values_in c) (rows_in_log (first_in c) log (suc k)) p)
      → changes_fit c log changes ≡ true
  unfolding changes_fit record_changes_fit
  changes-made h =
      all_of (record_changes_fit c log changes) (stamp_in c)
      (λ k l. let rows = rows_in_log (first_in c) log (suc k) in
      in-of (change_fits changes (values_in c) rows) (end_at log k) (end_at log (suc k))
      (λ p m n. change-made changes (values_in c) rows p (h k p l m n)))

  -- each change of records 1 to s
  pub change-at : records_fit c log ≡ true → changes_fit c log changes ≡ true → (s p : ℕ) → s ≤ stamp_in c → p < end_at log s
      → ChangeFacts changes (values_in c) (rows_in_log (first_in c) log s) p
  change-at r e zero p l h = absurd (omega arith)
  change-at r e (suc s) p l h = go (lt-cases p (end_at log s)) (λ k. change-at r e s p (omega arith) k)
    where
      go : (p < end_at log s) ⊎ (end_at log s ≤ p) → (p < end_at log s → ChangeFacts changes (values_in c) (rows_in_log (first_in c) log s) p)
          → ChangeFacts changes (values_in c) (rows_in_log (first_in c) log (suc s)) p
      go (inl k) ih = record { row_low = omega (arith, (ih k).row_low, (each-record c log r s l).rows-rise); set-low = (ih k).set-low }
      go (inr k) ih = each-change e s p l k h

  -- each change of the table
  pub change-now : records_fit c log ≡ true → changes_fit c log changes ≡ true → (p : ℕ) → p < changes_in c
      → ChangeFacts changes (values_in c) (rows_in c) p
  change-now r e p h =
      let f = change-at r e (stamp_in c) p (omega arith) (omega (arith, last_end c log r)) in
      record { row_low = omega (arith, f.row_low, last-rows c log r); set-low = f.set-low }
