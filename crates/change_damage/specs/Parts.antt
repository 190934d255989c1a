-- The parts into which the code cuts the sentence on changes.
use Rattle.std.specs.Prelude.{◌≡◌, Bool, List, ℕ, ◌+◌, ◌≤◌, ◌<◌, ltb, get_or}
use Rattle.bits.specs.All.{all_below}
use Rattle.bits.specs.Sets.{set_below}
use Rattle.tables.specs.Cells.{record_rows, record_end, end_at, change_row}
use Rattle.tables.specs.Damage.{all_in}

-- a number is below 2 ^ c exactly if each of the n cells from `from` on is
unfoldable pub Gathered : List ℕ → ℕ → ℕ → ℕ → Type 0
Gathered cells from n all = (c : ℕ) → set_below all c ≡ all_below (λ k. set_below (get_or cells (from + k) 0) c) n

-- the row of change p is below `rows`
unfoldable pub row_below : List ℕ → ℕ → ℕ → Bool
row_below changes rows p = ltb (change_row changes p) rows

-- the rows of the changes of record k + 1 are below its row count
unfoldable pub record_rows_fit : List ℕ → List ℕ → ℕ → Bool
record_rows_fit log changes k = all_in (row_below changes (record_rows log k)) (end_at log k) (record_end log k)

-- record e + 1, not before record k + 1 and one of the first n, has its row count
pub record Alike (log : List ℕ) (k e n : ℕ) : Type 0 where
  pub not-before : k ≤ e
  pub in_use : e < n
  pub same_rows : record_rows log e ≡ record_rows log k

-- row counts and ends of the first n records never fall, and the ends lie within the table
pub record Rising (log : List ℕ) (n : ℕ) : Type 0 where
  pub rows-rise : (a b : ℕ) → a ≤ b → b < n → record_rows log a ≤ record_rows log b
  pub ends-rise : (a b : ℕ) → a ≤ b → b ≤ n → end_at log a ≤ end_at log b
  pub ends_low : (k : ℕ) → k ≤ n → end_at log k ≤ 2048
