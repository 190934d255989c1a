-- What the readers and writers of cells use: a cell one place before, and a clock that may be too short.
use mathlib.Core.Path.{◌≡◌, sym, ap, ap₂, ◌∙◌}
use mathlib.Core.Bool.{Bool, cond}
use mathlib.Core.List.{List}
use Prim.Native.Nat.{ℕ, ◌+◌, ◌-◌, ◌≤◌, ◌<◌}
use native.Mathlib.Omega.{arith}
use borrow.Author.Tests.{le-leb, lt-leb}
use lib.ListN.{length, set}
use Rattle.tables.specs.declared.clock.Clock.{Clock}
use Rattle.tables.specs.Stores.{put_record}
use Rattle.tables.specs.Clock.{clock_of, clock_in, lent_clock}

pub set-at-same : (l : List ℕ) (i k x : ℕ) → k ≡ i → set l k x ≡ set l i x
set-at-same l i k x e = ap (λ (j : ℕ). set l j x) e

-- the four stores of the record of stamp s
pub record-at : (log : List ℕ) (s k kind rows end : ℕ) → 0 < s → k ≡ s - 1
    → set (set (set (set log k s) (512 + k) kind) (1024 + k) rows) (1536 + k) end ≡ put_record log (s - 1) kind rows end
unfolding put_record
record-at log s k kind rows end h e =
    let z : s ≡ s - 1 + 1 = omega arith in
    ap₂ (λ (j x : ℕ). set (set (set (set log j x) (512 + j) kind) (1024 + j) rows) (1536 + j) end) e z

-- a clock with too few cells, and one with enough
pub clock-short : (clock : List ℕ) → length clock < 6 → clock_of 0 0 0 0 ≡ lent_clock clock
unfolding lent_clock
clock-short clock h = sym (ap (λ (t : Bool). cond t (clock_in clock) (clock_of 0 0 0 0)) (lt-leb 6 (length clock) h))

pub clock-long : (clock : List ℕ) (r : Clock) → 6 ≤ length clock → r ≡ clock_in clock → r ≡ lent_clock clock
unfolding lent_clock
clock-long clock r h e = e ∙ sym (ap (λ (t : Bool). cond t (clock_in clock) (clock_of 0 0 0 0)) (le-leb 6 (length clock) h))
