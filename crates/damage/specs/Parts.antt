-- The parts into which the code cuts the sentences on slots and vectors.
use Rattle.std.specs.Prelude.{Bool, not, ◌&&◌, List, ℕ, ◌-◌, ◌≤◌, ◌<◌, leb, eqb, ltb}
use Rattle.tables.specs.Cells.{slot_value, slot_stamp, slot_link}

-- slot i links to an earlier slot of its value with a smaller stamp
unfoldable pub link_fits : List ℕ → ℕ → Bool
link_fits slots i =
    not (eqb (slot_link slots i) 0) && leb (slot_link slots i) i && eqb (slot_value slots (slot_link slots i - 1)) (slot_value slots i)
    && ltb (slot_stamp slots (slot_link slots i - 1)) (slot_stamp slots i)

-- the first n slots bear stamps of the log
unfoldable pub StampsLow : List ℕ → ℕ → Type 0
StampsLow slots n = (i : ℕ) → i < n → slot_stamp slots i ≤ 512
