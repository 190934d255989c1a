-- The last of some changes that names a row: its place and its flip set.
use Rattle.std.specs.Prelude.{cond, List, ℕ, zero, suc, ◌+◌, eqb, Option, Some, None}
use Rattle.rules.specs.Log.{last_naming, or_empty}
use Rattle.tables.specs.Cells.{change_row}
use Rattle.tables.specs.Meaning.{change_at}
use Rattle.tables.specs.Stretch.{stretch}
use Rattle.history.specs.declared.changes.Last.{Last}

-- one more than a place, or 0 for none
abbrev pub one_past : Option ℕ → ℕ
one_past None = 0
one_past (Some p) = p + 1

-- one more than the place of a change, or 0 for none
abbrev pub place_of : Option Last → ℕ
place_of None = 0
place_of (Some l) = l.at + 1

-- the flip set of a change, "or empty"
abbrev pub set_of : Option Last → ℕ
set_of None = 0
set_of (Some l) = l.set

-- one more than the place of the last of the first n changes that names the row, or 0
unfoldable pub last_place : List ℕ → ℕ → ℕ → ℕ
last_place changes row zero = 0
last_place changes row (suc n) = cond (eqb (change_row changes n) row) (suc n) (last_place changes row n)

-- the flip set of the last of the changes from a to b that names the row, "or empty"
unfoldable pub last_set : List ℕ → ℕ → ℕ → ℕ → ℕ
last_set changes a b row = or_empty (last_naming (stretch (change_at changes) a b) row)

-- the change of this set whose place is one less, or none at 0
abbrev pub change_before : ℕ → ℕ → Option Last
change_before zero set = None
change_before (suc p) set = Some (record { at = p; set = set })

-- the last of the first n changes that names the row
unfoldable pub last_of : List ℕ → ℕ → ℕ → Option Last
last_of changes n row = change_before (last_place changes row n) (last_set changes 0 n row)
