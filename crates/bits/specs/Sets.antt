-- Flip sets: a number below 2 ^ c is a set of values below c, by its bits.
use Rattle.std.specs.Prelude.{Bool, ℕ, ◌^◌, ltb}

-- every value of the set is below c
unfoldable pub set_below : ℕ → ℕ → Bool
set_below set c = ltb set (2 ^ c)
