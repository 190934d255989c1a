-- What a session's start that fits has.
use mathlib.Core.Path.{◌≡◌}
use mathlib.Core.Bool.{true}
use mathlib.Core.List.{List}
use Prim.Native.Nat.{ℕ, ◌≤◌}
use lib.Dec.{eqb}
use lib.ListN.{length}
use Rattle.tables.specs.declared.clock.Clock.{Clock}
use Rattle.tables.specs.Cells.{rows_in_log}
use Rattle.session_damage.specs.Parts.{start_fits}
use Rattle.tables.proofs.Tests.{told}

-- what a start that fits has
pub record StartFacts (start rows : ℕ) (log : List ℕ) (c : Clock) : Type 0 where
  pub start-old : start ≤ c.stamp.0
  pub start-low : start ≤ 512
  pub log-room : 2048 ≤ length log
  pub rows_then : eqb rows (rows_in_log c.first.0 log start) ≡ true

module _ (start rows : ℕ) (log : List ℕ) (c : Clock) where
  pub start-facts : start_fits start rows log c ≡ true → StartFacts start rows log c
  unfolding start_fits
  start-facts e = search told depth 8
