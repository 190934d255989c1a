-- The clock's limits at the numbers that the code copied.
use mathlib.Core.Path.{◌≡◌, ap}
use mathlib.Core.Bool.{true}
use mathlib.Core.List.{List}
use Prim.Native.Nat.{ℕ, ◌+◌, ◌≤◌}
use native.Mathlib.Omega.{arith}
use Rattle.tables.specs.declared.clock.Clock.{Clock}
use Rattle.tables.specs.Cells.{values_in, stamp_in, slots_in, changes_in}
use Rattle.tables.specs.Clock.{clock_in}
use Rattle.tables.specs.Damage.{clock_fits}
use Rattle.tables.proofs.Facts.{clock-limits}

module _ (clock : List ℕ) (f : clock_fits clock ≡ true) where
  pub low_values : (v : ℕ) → v ≡ values_in clock → v ≤ 32
  low_values v e = omega (arith, (clock-limits clock f).few-values)

  pub low-slots : (u n : ℕ) → u ≡ slots_in clock → n ≡ u → n ≤ 96
  low-slots u n e g = omega (arith, (clock-limits clock f).few-slots)

  pub low-sets : (u n size : ℕ) → u ≡ changes_in clock → n ≡ u → 4096 ≤ size → 2048 + n ≤ size
  low-sets u n size e g h = omega (arith, (clock-limits clock f).few-changes)

  pub low-stamp : (c : Clock) → c ≡ clock_in clock → c.stamp.0 ≤ 512
  unfolding clock_in
  low-stamp c e =
      let z : c.stamp.0 ≡ stamp_in clock = ap (λ (x : Clock). x.stamp.0) e in omega (arith, (clock-limits clock f).few-records)

  pub low-records : (c : Clock) (n : ℕ) → c ≡ clock_in clock → n ≡ c.stamp.0 → n ≤ 512
  low-records c n e g = omega (arith, low-stamp c e)

  pub low-first-slots : (c : Clock) (n : ℕ) → c ≡ clock_in clock → n ≡ c.values.0 → n ≤ 96
  unfolding clock_in
  low-first-slots c n e g =
      let z : c.values.0 ≡ values_in clock = ap (λ (x : Clock). x.values.0) e in omega (arith, (clock-limits clock f).few-values)
