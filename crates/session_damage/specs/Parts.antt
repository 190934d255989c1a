-- The parts into which the code cuts the sentence on sessions.
use Rattle.std.specs.Prelude.{◌≡◌, Bool, not, ◌&&◌, ◌||◌, List, ℕ, ◌<◌, leb, eqb, length, get_or}
use Rattle.bits.specs.All.{all_below}
use Rattle.tables.specs.declared.clock.Clock.{Clock}
use Rattle.tables.specs.Cells.{rows_in_log}
use Rattle.tables.specs.Damage.{entry_fits}

-- entry i of a list is 0
unfoldable pub zero_at : List ℕ → List ℕ → ℕ → Bool
zero_at at to i = eqb (get_or at i 0) 0 && eqb (get_or to i 0) 0

-- entry i of a list is a row below `rows` with a target, or an insert
unfoldable pub listed : ℕ → ℕ → List ℕ → List ℕ → ℕ → Bool
listed values rows at to i = entry_fits values rows (get_or at i 0) (get_or to i 0)

-- no entry before i has its row
unfoldable pub once_in : List ℕ → ℕ → Bool
once_in at i = eqb (get_or at i 0) 65535 || all_below (λ j. not (eqb (get_or at j 0) (get_or at i 0))) i

-- the first n entries are inserts or rows of a vector
unfoldable pub RowsLow : List ℕ → ℕ → Type 0
RowsLow at n = (i : ℕ) → i < n → (get_or at i 0 ≡ 65535 → ⊥) → get_or at i 0 < 2048

-- a list of `count` entries in a session of `rows` rows, where a vector and a target can hold them
unfoldable pub entries_fit : List ℕ → List ℕ → ℕ → ℕ → ℕ → Bool
entries_fit at to count rows values =
    leb count 32 && leb rows 2048 && leb values 32 && all_below (listed values rows at to) count && all_below (once_in at) count

-- a start that the log knows, with the row count of that moment
unfoldable pub start_fits : ℕ → ℕ → List ℕ → Clock → Bool
start_fits start rows log c =
    leb start c.stamp.0 && leb start 512 && leb 2048 (length log) && eqb rows (rows_in_log c.first.0 log start)
