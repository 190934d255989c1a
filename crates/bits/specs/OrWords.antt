-- The bits of many words in one.
use Rattle.std.specs.Prelude.{ℕ, zero, suc, ◌+◌, ◌-◌}
use Rattle.std.specs.Int.Bits.{bit_or}

-- the bits of g 0, .., g (n - 1) in one word
unfoldable pub or_below : (ℕ → ℕ) → ℕ → ℕ
or_below g zero = 0
or_below g (suc n) = bit_or (or_below g n) (g n)

-- the bits of g from, .., g (i - 1) in one word, as a loop gathers them
unfoldable pub or_from : (ℕ → ℕ) → ℕ → ℕ → ℕ
or_from g from i = or_below (λ k. g (from + k)) (i - from)
