-- The rows that a stretch of changes flips for a value.
use Rattle.std.specs.Prelude.{Bool, List, ℕ, ◌≤◌, ◌<◌, length}
use Rattle.bits.specs.Bit.{bit}
use Rattle.bits.specs.Words.{put_at}
use Rattle.tables.specs.Cells.{change_row, change_set}
use Rattle.history.specs.Last.{last_set}

-- "for each row the last change naming it decides: the row is flipped if that change's set has v"
unfoldable pub flipped_in : List ℕ → ℕ → ℕ → ℕ → ℕ → Bool
flipped_in changes a b v r = bit (last_set changes a b r) v

-- change p decides the bit of its row
unfoldable pub marked : List ℕ → List ℕ → ℕ → ℕ → List ℕ
marked mask changes p v = put_at mask (change_row changes p) (bit (change_set changes p) v)

-- the changes from a to b lie in their table, and name rows of a vector
pub record RowsLow (changes : List ℕ) (a b : ℕ) : Type 0 where
  pub changes-room : 4096 ≤ length changes
  pub end_low : b ≤ 2048
  pub rows-low : (p : ℕ) → a ≤ p → p < b → change_row changes p < 2048
