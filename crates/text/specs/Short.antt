-- Cells of one byte each: a digit, or `-`, after each space.
use Rattle.std.specs.Prelude.{◌≡◌, ℕ, ◌+◌, ◌-◌, ◌*◌, ◌/◌, ◌<◌, ◌≤◌, Bool, true, cond, ◌||◌, List, length, ◌==◌, slice_index}
use Rattle.fields.specs.Number.{is_digit}

-- a digit, or `-`
unfoldable pub short_known : ℕ → Bool
short_known b = is_digit b || b == 45

-- what it says, 255 for `-`
unfoldable pub short_value : ℕ → ℕ
short_value b = cond (b == 45) 255 (b - 48)

-- a cell follows a space, and a space any other byte
unfoldable pub turned_bytes : ℕ → ℕ → Bool
turned_bytes a b = cond (a == 32) (short_known b) (b == 32)

-- each byte of a line from a on, up to b, is followed so
unfoldable pub Turned : List ℕ → ℕ → ℕ → Type 0
Turned line a b = (i : ℕ) → a ≤ i → i < b → turned_bytes (slice_index line i) (slice_index line (i + 1)) ≡ true

-- the line from a place on is spaces with cells between them
pub record Short (line : List ℕ) (start : ℕ) : Type 0 where
  pub even : start + 2 * ((length line - start) / 2) ≡ length line
  pub spaces : (k : ℕ) → start + 2 * k < length line → slice_index line (start + 2 * k) ≡ 32
  pub known : (k : ℕ) → start + 2 * k < length line → short_known (slice_index line (start + 2 * k + 1)) ≡ true
