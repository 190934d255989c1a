-- The clock record: of the lent cells, and one stamp later.
use Rattle.std.specs.Prelude.{cond, List, ℕ, ◌+◌, leb, length}
use Rattle.tables.specs.declared.clock.Clock.{Clock}
use Rattle.tables.specs.declared.counts.Row.{Row}
use Rattle.tables.specs.Cells.{values_in, first_in, stamp_in, rows_in}

abbrev pub clock_of : ℕ → ℕ → ℕ → ℕ → Clock
clock_of values first stamp rows =
    record { values = record { 0 = values }; first = record { 0 = first }; stamp = record { 0 = stamp }; rows = record { 0 = rows } }

-- the clock of the lent cells; all 0 where they are too few
unfoldable pub clock_in : List ℕ → Clock
clock_in clock = clock_of (values_in clock) (first_in clock) (stamp_in clock) (rows_in clock)

unfoldable pub lent_clock : List ℕ → Clock
lent_clock clock = cond (leb 6 (length clock)) (clock_in clock) (clock_of 0 0 0 0)

-- "The stamp and the row count move in the same call"
unfoldable pub later : Clock → Row → Clock
later c rows = record { values = c.values; first = c.first; stamp = record { 0 = c.stamp.0 + 1 }; rows = rows }
