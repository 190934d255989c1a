-- A field as a number: "numbers have 1 to 4 digits". Leading zeros are digits too: `0003` is 3, `00003` is no number.
use Rattle.std.specs.Prelude.{Bool, true, cond, ◌&&◌, List, [], ◌∷◌, ℕ, ◌+◌, ◌-◌, ◌*◌, leb, length}
use Rattle.std.proofs.Math.Option.{Option, none, some}

-- whether a byte is one of `0` to `9`, the bytes 48 to 57
unfoldable pub is_digit : ℕ → Bool
is_digit b = leb 48 b && leb b 57

-- whether each byte is a digit
unfoldable pub all_are_digits : List ℕ → Bool
all_are_digits [] = true
all_are_digits (b ∷ f) = is_digit b && all_are_digits f

-- what digits say after those that say x
unfoldable pub value_from : ℕ → List ℕ → ℕ
value_from x [] = x
value_from x (b ∷ f) = value_from (x * 10 + (b - 48)) f

-- "numbers have 1 to 4 digits"
unfoldable pub is_number : List ℕ → Bool
is_number f = all_are_digits f && (leb 1 (length f) && leb (length f) 4)

-- the number that a field is, if it is one
unfoldable pub number : List ℕ → Option ℕ
number f = cond (is_number f) (some (value_from 0 f)) none
