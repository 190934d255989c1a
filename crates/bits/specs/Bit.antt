-- Bit k of a number, 0 the lowest, and a number with one bit turned over, set or cleared.
use Rattle.std.specs.Prelude.{Bool, true, false, not, ℕ, ◌/◌, ◌%◌, ◌^◌, eqb}
use Rattle.std.specs.Int.Bits.{bit_or, bit_xor}

-- one of two, and not both
abbrev pub xorb : Bool → Bool → Bool
xorb true b = not b
xorb false b = b

-- bit k of n, 0 the lowest
unfoldable pub bit : ℕ → ℕ → Bool
bit n k = eqb (n / 2 ^ k % 2) 1

-- ---- the operations on one bit

-- bit k turned over
unfoldable pub flip_bit : ℕ → ℕ → ℕ
flip_bit n k = bit_xor n (2 ^ k)

-- bit k set
unfoldable pub set_bit : ℕ → ℕ → ℕ
set_bit n k = bit_or n (2 ^ k)

-- bit k cleared
unfoldable pub clear_bit : ℕ → ℕ → ℕ
clear_bit n k = bit_xor (bit_or n (2 ^ k)) (2 ^ k)
