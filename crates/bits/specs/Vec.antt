-- The words whose row r is f r, for a function f of the row.
use Rattle.std.specs.Prelude.{Bool, cond, List, ℕ, zero, suc, ◌+◌, ◌*◌}
use Rattle.bits.specs.Bit.{set_bit}
use Rattle.bits.specs.Tab.{tab}

-- the number whose k low bits are f 0, .., f (k - 1)
unfoldable pub pack_bits : (ℕ → Bool) → ℕ → ℕ
pack_bits f zero = 0
pack_bits f (suc k) = cond (f k) (set_bit (pack_bits f k) k) (pack_bits f k)

-- word i of them: its 64 rows from i * 64 on
abbrev pub word_of : (ℕ → Bool) → ℕ → ℕ
word_of f i = pack_bits (λ k. f (i * 64 + k)) 64

-- the n words whose row r is f r
unfoldable pub vec : (ℕ → Bool) → ℕ → List ℕ
vec f n = tab (word_of f) n
