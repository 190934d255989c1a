-- The numbers below n that have f: how many they are, their list, ascending, and the smallest; and the same of the set rows of a vector.
use Rattle.std.specs.Prelude.{◌≡◌, Bool, true, false, cond, List, [], ◌∷◌, ◌++◌, map, ℕ, zero, suc, ◌+◌, ◌*◌, ◌<◌, length, get_or}
use Rattle.std.proofs.Math.Option.{Option, none, some}
use Rattle.bits.specs.Bit.{bit}
use Rattle.bits.specs.Choice.{or_else}
use Rattle.bits.specs.Words.{bit_at}

-- how many numbers below n have f
unfoldable pub count_below : (ℕ → Bool) → ℕ → ℕ
count_below f zero = 0
count_below f (suc n) = count_below f n + cond (f n) 1 0

-- the numbers below n that have f, ascending
unfoldable pub rows_below : (ℕ → Bool) → ℕ → List ℕ
rows_below f zero = []
rows_below f (suc n) = rows_below f n ++ cond (f n) (n ∷ []) []

-- how many rows of a vector are set
unfoldable pub count_of : List ℕ → ℕ
count_of ws = count_below (bit_at ws) (length ws * 64)

-- the rows of a vector that are set, ascending
unfoldable pub rows_of : List ℕ → List ℕ
rows_of ws = rows_below (bit_at ws) (length ws * 64)

-- the rows of a word whose first row is `base`, ascending
unfoldable pub word_rows : ℕ → ℕ → List ℕ
word_rows w base = map (λ k. base + k) (rows_below (bit w) 64)

-- ---- the rows ascend

-- each element is larger than those before it
unfoldable pub Ascending : List ℕ → Type 0
Ascending l = (i j : ℕ) → i < j → j < length l → get_or l i 0 < get_or l j 0

-- ---- the smallest number that has f

-- the smallest number below n that has f
unfoldable pub smallest_below : (ℕ → Bool) → ℕ → Option ℕ
smallest_below f zero = none
smallest_below f (suc n) = or_else (smallest_below f n) (cond (f n) (some n) none)

-- a is below n and has f, and no smaller number has
pub record Smallest (f : ℕ → Bool) (n a : ℕ) : Type 0 where
  pub below : a < n
  pub has : f a ≡ true
  pub least : (k : ℕ) → k < a → f k ≡ false
