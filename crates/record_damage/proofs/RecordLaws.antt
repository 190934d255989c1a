-- The records by what the code reads of them: record 1 against the first row count, each later one against the one before.
use mathlib.Core.Path.{◌≡◌, refl, sym, ap, ap₂, ◌∙◌}
use mathlib.Core.Bool.{Bool, ◌&&◌, ◌||◌, and-true}
use mathlib.Core.List.{List}
use Prim.Native.Nat.{ℕ, zero, suc, ◌+◌, ◌<◌}
use native.Mathlib.Omega.{arith}
use lib.Dec.{leb, eqb, leb-zero}
use lib.ListN.{get_or}
use Rattle.bits.specs.All.{all_below}
use Rattle.tables.specs.declared.clock.Clock.{Clock}
use Rattle.tables.specs.Cells.{first_in, stamp_in, changes_in, rows_in_log, end_at}
use Rattle.tables.specs.Clock.{clock_in}
use Rattle.tables.specs.Damage.{all_in, record_fits, records_fit}
use Rattle.tables.proofs.Fold.{below-front, in-ext}

-- from record 2 on, no test looks at the first row count
later_same : (a b : ℕ) (log : List ℕ) (k : ℕ) → 0 < k → record_fits a log k ≡ record_fits b log k
unfolding record_fits
later_same a b log zero h = absurd (omega arith)
later_same a b log (suc k) h = refl

abbrev kind_ok : List ℕ → ℕ → Bool
kind_ok log i = eqb (get_or log i 0) 1 || eqb (get_or log i 0) 2

-- a later record, whose neighbour before lies one cell before
pub later-record : (log : List ℕ) (k : ℕ) (kind : Bool) → 0 < k → kind ≡ kind_ok log (512 + k)
    → eqb (get_or log k 0) (k + 1) && kind && leb (get_or log (1023 + k) 0) (get_or log (1024 + k) 0)
    && leb (get_or log (1535 + k) 0) (get_or log (1536 + k) 0)
    ≡ record_fits 0 log k
unfolding record_fits
later-record log zero kind h q = absurd (omega arith)
later-record log (suc k) kind h q =
    let a : 1023 + suc k ≡ 1024 + k = omega arith in
    let b : 1535 + suc k ≡ 1536 + k = omega arith in
    rw (q, a, b)

-- record 1
pub first-record : (log : List ℕ) (first n : ℕ) (kind : Bool) → kind ≡ kind_ok log 512
    → eqb n 0 || (eqb (get_or log 0 0) 1 && kind && leb first (get_or log 1024 0)) ≡ eqb n 0 || record_fits first log 0
unfolding record_fits
first-record log first n kind q =
    ap (λ (t : Bool). eqb n 0 || t)
    (ap (λ (t : Bool). eqb (get_or log 0 0) 1 && t && leb first (get_or log 1024 0)) q
    ∙ sym (and-true (eqb (get_or log 0 0) 1 && kind_ok log 512 && leb first (get_or log 1024 0)))
    ∙ ap (λ (t : Bool). eqb (get_or log 0 0) 1 && kind_ok log 512 && leb first (get_or log 1024 0) && t) (sym (leb-zero (get_or log 1536 0))))

-- all of them
each : (log : List ℕ) (first s n : ℕ) (a b : Bool) → n ≡ s → a ≡ (eqb n 0 || record_fits first log 0) → b ≡ all_in (record_fits 0 log) 1 n
    → a && b ≡ all_below (record_fits first log) s
each log first s n a b e p q =
    ap₂ (λ (x y : Bool). x && y) p (q ∙ in-ext (record_fits 0 log) (record_fits first log) 1 n (λ k h l. later_same 0 first log k h))
    ∙ sym (below-front (record_fits first log) n) ∙ ap (all_below (record_fits first log)) e

-- and the last
pub all-records : (clock log : List ℕ) (c : Clock) (end used rows : ℕ) (a b : Bool) → c ≡ clock_in clock
    → end ≡ end_at log c.stamp.0 → used ≡ changes_in clock → rows ≡ rows_in_log c.first.0 log c.stamp.0
    → a ≡ (eqb c.stamp.0 0 || record_fits c.first.0 log 0) → b ≡ all_in (record_fits 0 log) 1 c.stamp.0
    → a && b && eqb end used && eqb rows c.rows.0 ≡ records_fit clock log
unfolding records_fit clock_in
all-records clock log c end used rows a b e g h i j k =
    let s : c.stamp.0 ≡ stamp_in clock = ap (λ (x : Clock). x.stamp.0) e in
    let t : c.first.0 ≡ first_in clock = ap (λ (x : Clock). x.first.0) e in
    ap₂ (λ (x y : Bool). x && y)
    (ap₂ (λ (x y : Bool). x && y)
    (each log (first_in clock) (stamp_in clock) c.stamp.0 a b s (j ∙ ap (λ (x : ℕ). eqb c.stamp.0 0 || record_fits x log 0) t) k)
    (ap₂ eqb (g ∙ ap (end_at log) s) h))
    (ap₂ eqb (i ∙ ap₂ (λ (x y : ℕ). rows_in_log x log y) t s) (ap (λ (x : Clock). x.rows.0) e))
