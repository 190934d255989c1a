-- What the writers leave in the cells: single stores, one after another.
use Rattle.std.specs.Prelude.{List, ℕ, ◌+◌, set}

-- slot i gets its value, its stamp and its link
unfoldable pub put_slot : List ℕ → ℕ → ℕ → ℕ → ℕ → List ℕ
put_slot slots i value stamp link = set (set (set slots i value) (96 + i) stamp) (192 + i) link

-- the head of v names slot i
unfoldable pub put_head : List ℕ → ℕ → ℕ → List ℕ
put_head heads v i = set heads v i

-- the record after stamp k gets its stamp, its kind, its row count and the end of its changes
unfoldable pub put_record : List ℕ → ℕ → ℕ → ℕ → ℕ → List ℕ
put_record log k kind rows end = set (set (set (set log k (k + 1)) (512 + k) kind) (1024 + k) rows) (1536 + k) end

-- change p gets its row and its flip set
unfoldable pub put_change : List ℕ → ℕ → ℕ → ℕ → List ℕ
put_change changes p row flips = set (set changes p row) (2048 + p) flips

-- the clock's six cells: the record of four, the slots and the changes in use
unfoldable pub put_clock : List ℕ → ℕ → ℕ → ℕ → ℕ → ℕ → ℕ → List ℕ
put_clock clock values first stamp rows slots changes =
    set (set (set (set (set (set clock 0 values) 1 first) 2 stamp) 3 rows) 4 slots) 5 changes

-- the stamp and the row count; the slots in use; the changes in use
unfoldable pub put_moment : List ℕ → ℕ → ℕ → List ℕ
put_moment clock stamp rows = set (set clock 2 stamp) 3 rows

unfoldable pub put_slots_used : List ℕ → ℕ → List ℕ
put_slots_used clock n = set clock 4 n

unfoldable pub put_changes_used : List ℕ → ℕ → List ℕ
put_changes_used clock n = set clock 5 n
