-- A number of a caller as a row or a value: one that fits neither type is the greatest, which no table has.
use Rattle.std.specs.Prelude.{cond, ℕ, ltb}

-- the greatest number of 32 bits
unfoldable pub greatest : ℕ
greatest = 4294967295

unfoldable pub narrowed : ℕ → ℕ
narrowed n = cond (ltb greatest n) greatest n
