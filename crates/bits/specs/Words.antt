-- Bit r of a list of words of 64 bits, the lowest bit of the first word being bit 0.
use Rattle.std.specs.Prelude.{Bool, cond, List, ℕ, ◌/◌, ◌%◌, ◌^◌, ◌<◌, length, get_or, set}
use Rattle.std.specs.Int.Bits.{bit_or, bit_xor}
use Rattle.bits.specs.Bit.{bit, set_bit, clear_bit}
use Rattle.bits.specs.Tab.{tab}

-- bit r of the words: row r of a vector
unfoldable pub bit_at : List ℕ → ℕ → Bool
bit_at ws r = bit (get_or ws (r / 64) 0) (r % 64)

-- every word has 64 bits
abbrev pub Words : List ℕ → Type 0
Words ws = (i : ℕ) → get_or ws i 0 < 2 ^ 64

-- ---- one bit of a list of words changed

-- w with bit k made `on`
abbrev pub put_bit : ℕ → ℕ → Bool → ℕ
put_bit w k on = cond on (set_bit w k) (clear_bit w k)

-- row r's bit made `on`
unfoldable pub put_at : List ℕ → ℕ → Bool → List ℕ
put_at ws r on = set ws (r / 64) (put_bit (get_or ws (r / 64) 0) (r % 64) on)

-- ---- lists of words, bit by bit

-- word i of the two, bit by bit
abbrev pub xor_at : List ℕ → List ℕ → ℕ → ℕ
xor_at a b i = bit_xor (get_or a i 0) (get_or b i 0)

-- the words of a with the bits of b turned over
unfoldable pub xor_words : List ℕ → List ℕ → List ℕ
xor_words a b = tab (xor_at a b) (length a)

-- the words of d with the bits of `a xor b` set too
unfoldable pub merged_words : List ℕ → List ℕ → List ℕ → List ℕ
merged_words d a b = tab (λ i. bit_or (get_or d i 0) (xor_at a b i)) (length d)
