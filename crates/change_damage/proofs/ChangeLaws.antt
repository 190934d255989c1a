-- The changes: all flip sets gathered, and the rows of all records of one row count at once.
use mathlib.Core.Path.{◌≡◌, sym, ap, ap₂, ◌∙◌}
use mathlib.Core.Bool.{Bool, true, false, not, ◌&&◌}
use mathlib.Core.List.{List}
use mathlib.Core.Logic.{◌⊎◌, inl, inr, ⊎_elim}
use Prim.Native.Nat.{ℕ, zero, suc, ◌+◌, ◌-◌, ◌*◌, ◌/◌, ◌^◌, ◌≤◌, ◌<◌}
use native.Mathlib.Nat.{eq-or-lt_of_le, le_of_suc-le-suc}
use native.Mathlib.Numerals.{add-one}
use native.Mathlib.Omega.{arith}
use borrow.Author.Tests.{lt-ltb, ltb-true, not-true, not-false}
use Rattle.bits.specs.All.{all_below}
use Rattle.bits.proofs.AllLaws.{all-at, all_of}
use Rattle.bits.proofs.Cases.{lt-cases, same_truth}
use Rattle.bits.specs.Sets.{set_below}
use Rattle.bits.proofs.SetLaws.{below-lt, lt-below}
use Rattle.tables.specs.declared.clock.Clock.{Clock}
use Rattle.tables.specs.Cells.{values_in, stamp_in, changes_in, record_rows, record_end, end_at, change_row, change_set}
use Rattle.tables.specs.Clock.{clock_in}
use Rattle.tables.specs.Damage.{all_in, clock_fits, records_fit, changes_fit}
use Rattle.tables.proofs.Tests.{both, and_both, found-true}
use Rattle.tables.proofs.Facts.{in-at, in-of, clock-limits, end-next, ends-order, rows-order, end-high, each-change, change-now}
use Rattle.tables.proofs.Facts.{changes-made}
use Rattle.change_damage.specs.Parts.{Gathered, row_below, record_rows_fit, Alike, Rising}
use Rattle.tables.proofs.Fold.{in-none, in-join, in_one}

-- a change's row, and the rows of a record's changes
row_lt : (changes : List ℕ) (rows p : ℕ) → row_below changes rows p ≡ true → change_row changes p < rows
unfolding row_below
row_lt changes rows p = ltb-true (change_row changes p) rows

lt-row : (changes : List ℕ) (rows p : ℕ) → change_row changes p < rows → row_below changes rows p ≡ true
unfolding row_below
lt-row changes rows p = lt-ltb (change_row changes p) rows

-- a stretch that starts early, at changes that are known to have such rows
pub early-start : (changes : List ℕ) (rows from to : ℕ) (t : Bool) → all_in (row_below changes rows) 0 from ≡ true → from ≤ to
    → t ≡ all_in (row_below changes rows) (to - (to - from + 7) / 8 * 8) to → t ≡ all_in (row_below changes rows) from to
early-start changes rows from to t e l q =
    q ∙ in-join (row_below changes rows) (to - (to - from + 7) / 8 * 8) from to (omega arith) l
    ∙ ap (λ (b : Bool). b && all_in (row_below changes rows) from to) (in-of (row_below changes rows) (to - (to - from + 7) / 8 * 8) from
    (λ j m n. in-at (row_below changes rows) 0 from e j (omega arith) n))

module _ (log changes : List ℕ) (k : ℕ) where
  record-at : record_rows_fit log changes k ≡ true → (p : ℕ) → end_at log k ≤ p → p < record_end log k → change_row changes p < record_rows log k
  unfolding record_rows_fit
  record-at e p h l =
      row_lt changes (record_rows log k) p (in-at (row_below changes (record_rows log k)) (end_at log k) (record_end log k) e p h l)

  record_of : ((p : ℕ) → end_at log k ≤ p → p < record_end log k → change_row changes p < record_rows log k)
      → record_rows_fit log changes k ≡ true
  unfolding record_rows_fit
  record_of h =
      in-of (row_below changes (record_rows log k)) (end_at log k) (record_end log k) (λ p m n. lt-row changes (record_rows log k) p (h p m n))

  -- a record of that row count
  record_is : (rows : ℕ) → record_rows log k ≡ rows
      → all_in (record_rows_fit log changes) k (suc k) ≡ all_in (row_below changes rows) (end_at log k) (end_at log (suc k))
  unfolding record_rows_fit
  record_is rows e =
      ap (all_in (record_rows_fit log changes) k) (sym (add-one k)) ∙ in_one (record_rows_fit log changes) k
      ∙ ap (λ (x : ℕ). all_in (row_below changes x) (end_at log k) (record_end log k)) e

-- ---- records of one row count

-- the first `from` changes have rows below the row count of each of the records k + 1 to n
unfoldable pub Passed : List ℕ → List ℕ → ℕ → ℕ → ℕ → Type 0
Passed log changes from k n = (p j : ℕ) → p < from → k ≤ j → j < n → change_row changes p < record_rows log j

pub none_passed : (log changes : List ℕ) (k n : ℕ) → Passed log changes 0 k n
unfolding Passed
none_passed log changes k n p j h = absurd (omega arith)

module _ (log changes : List ℕ) (n : ℕ) (r : Rising log n) where
  abbrev fits : ℕ → ℕ → Bool
  fits k e = all_in (record_rows_fit log changes) k e

  abbrev low : ℕ → ℕ → ℕ → Bool
  low rows k e = all_in (row_below changes rows) (end_at log k) (end_at log e)

  -- their changes are one stretch, and are judged as one
  together : (rows k e : ℕ) → k ≤ e → e ≤ n → ((j : ℕ) → k ≤ j → j < e → record_rows log j ≡ rows) → fits k e ≡ low rows k e
  together rows k zero h l f =
      in-none (record_rows_fit log changes) k 0 (omega arith) ∙ sym (in-none (row_below changes rows) (end_at log k) 0 (omega arith))
  together rows k (suc e) h l f = go (eq-or-lt_of_le h) (λ m. together rows k e m (omega arith) (λ j p q. f j p (omega arith)))
    where
      go : (k ≡ suc e) ⊎ (k < suc e) → (k ≤ e → fits k e ≡ low rows k e) → fits k (suc e) ≡ low rows k (suc e)
      go (inl z) ih =
          in-none (record_rows_fit log changes) k (suc e) (omega arith)
          ∙ sym (in-none (row_below changes rows) (end_at log k) (end_at log (suc e)) (rw z (omega arith)))
      go (inr m) ih =
          in-join (record_rows_fit log changes) k e (suc e) (omega arith) (omega arith)
          ∙ ap₂ (λ (x y : Bool). x && y) (ih (le_of_suc-le-suc m)) (record_is log changes e rows (f e (omega arith) (omega arith)))
          ∙ sym (in-join (row_below changes rows) (end_at log k) (end_at log e) (end_at log (suc e))
          (r.ends-rise k e (omega arith) (omega arith)) (r.ends-rise e (suc e) (omega arith) l))

  module _ (k e : ℕ) (a : Alike log k e n) where
    -- "row counts never fall": those between have it too
    one-count : (j : ℕ) → k ≤ j → j < suc e → record_rows log j ≡ record_rows log e
    one-count j h l = omega (arith, r.rows-rise k j h (omega (arith, a.in_use)), r.rows-rise j e (omega arith) a.in_use, a.same_rows)

    -- the records from k + 1 on, as that stretch and the rest
    stretch : fits k n ≡ low (record_rows log e) k (suc e) && fits (e + 1) n
    stretch =
        in-join (record_rows_fit log changes) k (suc e) n (omega (arith, a.not-before)) a.in_use
        ∙ ap₂ (λ (x y : Bool). x && y) (together (record_rows log e) k (suc e) (omega (arith, a.not-before)) a.in_use one-count)
        (ap (λ (x : ℕ). fits x n) (sym (add-one e)))

    -- "row counts never fall": what passed at a record passes at the later ones
    pub passed-below : (from : ℕ) → Passed log changes from k n → all_in (row_below changes (record_rows log e)) 0 from ≡ true
    unfolding Passed
    passed-below from h =
        in-of (row_below changes (record_rows log e)) 0 from
        (λ p m l. lt-row changes (record_rows log e) p (h p e l a.not-before a.in_use))

    pub passed-more : (from to : ℕ) (t : Bool) → Passed log changes from k n → t ≡ all_in (row_below changes (record_rows log e)) from to
        → not t ≡ false → Passed log changes to (e + 1) n
    unfolding Passed
    passed-more from to t h q m p j l x y =
        ⊎_elim (λ (z : p < from). h p j z (omega (arith, a.not-before)) y)
        (λ (z : from ≤ p). omega (
          arith,
          r.rows-rise e j (omega arith) y,
          row_lt changes (record_rows log e) p
              (in-at (row_below changes (record_rows log e)) from to (found-true t _ q m) p z l),
        )) (lt-cases p from)

    -- with the numbers that the code copied
    module _ (from to : ℕ) (w t : Bool) (x : from ≡ end_at log k) (y : to ≡ record_end log e) (z : w ≡ fits k n)
        (q : t ≡ all_in (row_below changes (record_rows log e)) from to) where
      judged : w ≡ t && fits (e + 1) n
      judged = z ∙ stretch ∙ ap (λ (b : Bool). b && fits (e + 1) n) (sym (q ∙ ap₂ (all_in (row_below changes (record_rows log e))) x y))

      pub stretch-again : not t ≡ false → w ≡ fits (e + 1) n
      stretch-again h = judged ∙ ap (λ (b : Bool). b && fits (e + 1) n) (not-false t h)

      pub stretch-fails : not t ≡ true → false ≡ w
      stretch-fails h = sym (judged ∙ ap (λ (b : Bool). b && fits (e + 1) n) (not-true t h))

    pub stretch-order : (from to : ℕ) → from ≡ end_at log k → to ≡ record_end log e → from ≤ to
    stretch-order from to x y = omega (arith, r.ends-rise k (suc e) (omega (arith, a.not-before)) a.in_use)

    pub stretch-low : (to : ℕ) → to ≡ record_end log e → to ≤ 2048
    stretch-low to y = omega (arith, r.ends_low (suc e) a.in_use)

pub stretch-ends : (log : List ℕ) (e to : ℕ) → to ≡ record_end log e → to ≡ end_at log (e + 1)
stretch-ends log e to y = y ∙ sym (end-next log e)

-- ---- where the records are sound

module _ (c log changes : List ℕ) (r : records_fit c log ≡ true) where
  abbrev sets : Bool
  sets = all_below (λ p. set_below (change_set changes p) (values_in c)) (changes_in c)

  abbrev rows : Bool
  rows = all_below (record_rows_fit log changes) (stamp_in c)

  set_at : sets ≡ true → (p : ℕ) → p < changes_in c → change_set changes p < 2 ^ values_in c
  set_at e p h =
      below-lt (change_set changes p) (values_in c) (all-at (λ q. set_below (change_set changes q) (values_in c)) (changes_in c) e p h)

  -- the sets of all changes and the rows of each record's
  changes-split : changes_fit c log changes ≡ sets && rows
  changes-split =
      same_truth (changes_fit c log changes) (sets && rows)
      (λ e. and_both sets rows
      (all_of (λ p. set_below (change_set changes p) (values_in c)) (changes_in c)
      (λ p l. lt-below (change_set changes p) (values_in c) (change-now c log changes r e p l).set-low))
      (all_of (record_rows_fit log changes) (stamp_in c)
      (λ k l. record_of log changes k (λ p m n. (each-change c log changes e k p l m n).row_low))))
      (λ e. changes-made c log changes
      (λ k p l m n. record {
        row_low = record-at log changes k (all-at (record_rows_fit log changes) (stamp_in c) (both sets rows e).1 k l) p m n;
        set-low = set_at (both sets rows e).0 p (omega (arith, end-high c log r (suc k) l));
      }))

-- ---- what the code asks, with the numbers that it copied

pub rising : (clock log : List ℕ) (c : Clock) → clock_fits clock ≡ true → records_fit clock log ≡ true → c ≡ clock_in clock
    → Rising log c.stamp.0
unfolding clock_in
rising clock log c f r e =
    let z : c.stamp.0 ≡ stamp_in clock = ap (λ (x : Clock). x.stamp.0) e in
    record {
      rows-rise = λ a b h l. rows-order clock log r (suc a) (suc b) (omega arith) (omega arith);
      ends-rise = λ a b h l. ends-order clock log r a b h (omega arith);
      ends_low = λ k h. omega (arith, end-high clock log r k (omega arith), (clock-limits clock f).few-changes);
    }

module _ (clock log changes : List ℕ) (c : Clock) (n set : ℕ) (t : Bool) (e : c ≡ clock_in clock) (i : n ≡ changes_in clock)
    (r : records_fit clock log ≡ true) (q : Gathered changes 2048 n set) (y : t ≡ set_below set c.values.0) where
  sets-are : t ≡ sets clock log changes r
  unfolding clock_in Gathered
  sets-are =
      y ∙ q c.values.0
      ∙ ap₂ (λ (v m : ℕ). all_below (λ p. set_below (change_set changes p) v) m) (ap (λ (x : Clock). x.values.0) e) i

  -- a set that is not below C
  pub bad-sets : t ≡ false → t ≡ changes_fit clock log changes
  bad-sets h = h ∙ sym (changes-split clock log changes r ∙ ap (λ (x : Bool). x && rows clock log changes r) (sym sets-are ∙ h))

  -- the rows of each record
  pub each_rows : (b : Bool) → t ≡ true → b ≡ all_below (record_rows_fit log changes) c.stamp.0 → b ≡ changes_fit clock log changes
  unfolding clock_in
  each_rows b h p =
      p ∙ ap (all_below (record_rows_fit log changes)) (ap (λ (x : Clock). x.stamp.0) e)
      ∙ ap (λ (x : Bool). x && rows clock log changes r) (sym (sym sets-are ∙ h)) ∙ sym (changes-split clock log changes r)
