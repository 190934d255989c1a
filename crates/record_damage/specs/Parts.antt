-- The parts into which the code cuts the sentences on records.
use Rattle.std.specs.Prelude.{cond, ℕ, ◌+◌, ◌-◌, ◌≤◌, ◌<◌, leb}

-- how far a is above b, modulo 2 ^ 32
unfoldable pub gap : ℕ → ℕ → ℕ
gap a b = cond (leb b a) (a - b) (a + (4294967296 - b))

-- g is at most `top` from a on, up to b
unfoldable pub Within : (ℕ → ℕ) → ℕ → ℕ → ℕ → Type 0
Within g a b top = (k : ℕ) → a ≤ k → k < b → g k ≤ top
