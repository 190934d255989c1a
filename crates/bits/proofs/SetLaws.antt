-- The laws of flip sets: no bit is left above their count.
use mathlib.Core.Path.{◌≡◌}
use mathlib.Core.Bool.{true}
use Prim.Native.Nat.{ℕ, ◌/◌, ◌^◌, ◌≤◌, ◌<◌}
use native.Mathlib.Nat.{div-eq_of_lt, lt_of_lt_of_le}
use borrow.Author.Tests.{ltb-true, lt-ltb, eqb-true, eq-eqb}
use lib.Dec.{eqb}
use lib.Pow.{pow_mono}
use Rattle.bits.proofs.BitLaws.{shr-none}
use Rattle.bits.proofs.Cases.{same_truth}
use Rattle.bits.specs.Sets.{set_below}

pub below-lt : (set c : ℕ) → set_below set c ≡ true → set < 2 ^ c
unfolding set_below
below-lt set c = ltb-true set (2 ^ c)

pub lt-below : (set c : ℕ) → set < 2 ^ c → set_below set c ≡ true
unfolding set_below
lt-below set c = lt-ltb set (2 ^ c)

-- a set of values below c has none at or above a larger count
pub below_wider : (set c d : ℕ) → set < 2 ^ c → c ≤ d → set_below set d ≡ true
below_wider set c d h l = lt-below set d (lt_of_lt_of_le h (pow_mono l))

-- no bit is left above c
pub below-shr : (set c : ℕ) → eqb (set / 2 ^ c) 0 ≡ set_below set c
below-shr set c =
    same_truth (eqb (set / 2 ^ c) 0) (set_below set c) (λ e. lt-below set c (shr-none set c (eqb-true (set / 2 ^ c) 0 e)))
    (λ e. eq-eqb (set / 2 ^ c) 0 (div-eq_of_lt (below-lt set c e)))
