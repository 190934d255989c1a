-- No row at or above a row count is set.
use Rattle.std.specs.Prelude.{Bool, not, ◌||◌, List, ℕ, ◌+◌, ◌-◌, ◌*◌, eqb, ltb, length, get_or}
use Rattle.bits.specs.All.{all_below}
use Rattle.bits.specs.Words.{bit_at}

-- row r is below n or not set
abbrev pub below_or_clear : List ℕ → ℕ → ℕ → Bool
below_or_clear ws n r = ltb r n || not (bit_at ws r)

-- no row at or above n is set
unfoldable pub tail_clear : List ℕ → ℕ → Bool
tail_clear ws n = all_below (below_or_clear ws n) (length ws * 64)

-- ---- by words: what is left of one word, and the words after it

-- the words from `from` on are 0
unfoldable pub zeros_from : List ℕ → ℕ → Bool
zeros_from ws from = all_below (λ i. eqb (get_or ws (from + i) 0) 0) (length ws - from)
