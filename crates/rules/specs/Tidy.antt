-- Tidy: the rows it moves, when it is stale, and the changes of its record.
use Rattle.std.specs.Prelude.{Bool, ◌||◌, List, map, ℕ, ltb}
use Rattle.bits.specs.Bit.{bit, clear_bit}
use Rattle.bits.specs.Rows.{rows_below}
use Rattle.rules.specs.Limits.{max_rows}
use Rattle.rules.specs.State.{Change, Log, Chain}
use Rattle.rules.specs.Log.{above, changes_of, some_change, flip_set}
use Rattle.rules.specs.Versions.{newest}

-- "The moved rows are those whose flip set at s has v."
abbrev pub moves : Log → ℕ → ℕ → ℕ → Bool
moves log s v r = bit (flip_set log s r) v

unfoldable pub moved : Log → ℕ → ℕ → List ℕ
moved log s v = rows_below (moves log s v) max_rows

-- "It is stale exactly if the head of v has a stamp above s, or some record above s names a moved row, or some record above
-- s has a change whose set has v."
abbrev pub stale : Log → Chain → ℕ → ℕ → Bool
stale log ch s v =
    ltb s (newest ch).stamp || some_change (λ c. moves log s v c.row) (changes_of (above log s))
    || some_change (λ c. bit c.flips v) (changes_of (above log s))

-- "their flip sets at s less v"
abbrev pub tidy_change : Log → ℕ → ℕ → ℕ → Change
tidy_change log s v r = record { row = r; flips = clear_bit (flip_set log s r) v }

-- "lists the moved rows in ascending order with their flip sets at s less v"
unfoldable pub tidy_changes : Log → ℕ → ℕ → List Change
tidy_changes log s v = map (tidy_change log s v) (moved log s v)
