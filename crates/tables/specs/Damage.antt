-- Number 2: document 01's section "Damaged tables", a definition for each of its sentences, over the cells.
use Rattle.std.specs.Prelude.{Bool, not, ◌&&◌, ◌||◌, cond, List, ℕ, suc, ◌+◌, ◌-◌, ◌^◌, leb, eqb, ltb, get_or}
use Rattle.bits.specs.All.{all_below}
use Rattle.bits.specs.Tail.{tail_clear}
use Rattle.rules.specs.Limits.{max_values, max_rows, max_slots, max_records, max_changes, max_sessions, max_entries}
use Rattle.tables.specs.declared.session.Session.{Session}
use Rattle.tables.specs.Cells.{Tables, values_in, first_in, stamp_in, rows_in, slots_in, changes_in, slot_value, slot_stamp, slot_link}
use Rattle.tables.specs.Cells.{slot_words, head_of, record_stamp, record_kind, rows_in_log, end_at, change_row, change_set}
use Rattle.tables.specs.Sessions.{session_at}

-- a test at every place from a to b
unfoldable pub all_in : (ℕ → Bool) → ℕ → ℕ → Bool
all_in p a b = all_below (λ k. p (a + k)) (b - a)

-- "C is 1 to 32; row count and first row count at most 2,048; stamp at most 512; slots C to 96; changes at most 2,048."
unfoldable pub clock_fits : List ℕ → Bool
clock_fits c =
    leb 1 (values_in c) && leb (values_in c) max_values && leb (rows_in c) max_rows && leb (first_in c) max_rows && leb (stamp_in c) max_records
    && leb (values_in c) (slots_in c) && leb (slots_in c) max_slots && leb (changes_in c) max_changes

-- "Record k bears stamp k and one of the two kinds; its changes start where those before ended; .. row counts never fall from
-- the first row count on": of record k + 1; its changes start where those before ended by the layout, if ends never fall
unfoldable pub record_fits : ℕ → List ℕ → ℕ → Bool
record_fits first log k =
    eqb (record_stamp log k) (k + 1) && (eqb (record_kind log k) 1 || eqb (record_kind log k) 2)
    && leb (rows_in_log first log k) (rows_in_log first log (suc k)) && leb (end_at log k) (end_at log (suc k))

-- "the last end at the change count; row counts .. end at the current one"
unfoldable pub records_fit : List ℕ → List ℕ → Bool
records_fit c log =
    all_below (record_fits (first_in c) log) (stamp_in c) && eqb (end_at log (stamp_in c)) (changes_in c)
    && eqb (rows_in_log (first_in c) log (stamp_in c)) (rows_in c)

-- "A change's row is below its record's row count and its set is below C."
unfoldable pub change_fits : List ℕ → ℕ → ℕ → ℕ → Bool
change_fits changes values rows p = ltb (change_row changes p) rows && ltb (change_set changes p) (2 ^ values)

unfoldable pub record_changes_fit : List ℕ → List ℕ → List ℕ → ℕ → Bool
record_changes_fit c log changes k =
    all_in (change_fits changes (values_in c) (rows_in_log (first_in c) log (suc k))) (end_at log k) (end_at log (suc k))

unfoldable pub changes_fit : List ℕ → List ℕ → List ℕ → Bool
changes_fit c log changes = all_below (record_changes_fit c log changes) (stamp_in c)

-- "Slot i below C has value i, stamp 0, no link"
unfoldable pub first_slot_fits : List ℕ → ℕ → Bool
first_slot_fits slots i = eqb (slot_value slots i) i && eqb (slot_stamp slots i) 0 && eqb (slot_link slots i) 0

-- "a later slot has a value below C, a stamp at most the current one, and links to an earlier slot of the same value with a
-- smaller stamp"
unfoldable pub later_slot_fits : ℕ → ℕ → List ℕ → ℕ → Bool
later_slot_fits values stamp slots i =
    ltb (slot_value slots i) values && leb (slot_stamp slots i) stamp && not (eqb (slot_link slots i) 0) && leb (slot_link slots i) i
    && eqb (slot_value slots (slot_link slots i - 1)) (slot_value slots i) && ltb (slot_stamp slots (slot_link slots i - 1)) (slot_stamp slots i)

unfoldable pub slot_fits : ℕ → ℕ → List ℕ → ℕ → Bool
slot_fits values stamp slots i = cond (ltb i values) (first_slot_fits slots i) (later_slot_fits values stamp slots i)

unfoldable pub slots_fit : List ℕ → List ℕ → Bool
slots_fit c slots = all_below (slot_fits (values_in c) (stamp_in c) slots) (slots_in c)

-- "Head v names a slot of value v."
unfoldable pub head_fits : ℕ → List ℕ → List ℕ → ℕ → Bool
head_fits used slots heads v = ltb (head_of heads v) used && eqb (slot_value slots (head_of heads v)) v

unfoldable pub heads_fit : List ℕ → List ℕ → List ℕ → Bool
heads_fit c slots heads = all_below (head_fits (slots_in c) slots heads) (values_in c)

-- "Vector bits at or above the row count at the slot's stamp are 0."
unfoldable pub vector_fits : ℕ → List ℕ → List ℕ → List ℕ → ℕ → Bool
vector_fits first log slots words i = tail_clear (slot_words words i) (rows_in_log first log (slot_stamp slots i))

unfoldable pub vectors_fit : List ℕ → List ℕ → List ℕ → List ℕ → Bool
vectors_fit c log slots words = all_below (vector_fits (first_in c) log slots words) (slots_in c)

-- "A session is free and all 0"
unfoldable pub is_entry_zero : Session → ℕ → Bool
is_entry_zero x i = eqb (get_or x.at i 0) 0 && eqb (get_or x.to i 0) 0

unfoldable pub all_zero : Session → Bool
all_zero x =
    eqb x.live 0 && eqb x.start.0 0 && eqb x.rows.0 0 && eqb x.count 0 && all_below (is_entry_zero x) max_entries

-- "rows below that count .., targets and inserts below C or (targets only) absent"
unfoldable pub entry_fits : ℕ → ℕ → ℕ → ℕ → Bool
entry_fits values rows at to = (ltb at rows && (ltb to values || eqb to 255)) || (eqb at 65535 && ltb to values)

-- "and listed once": no entry before i has its row
unfoldable pub once_fits : Session → ℕ → Bool
once_fits x i = eqb (get_or x.at i 0) 65535 || all_below (λ j. not (eqb (get_or x.at j 0) (get_or x.at i 0))) i

-- "or open with a start at most the stamp, the row count of that moment, at most 32 entries, .."
unfoldable pub open_fits : ℕ → ℕ → ℕ → List ℕ → Session → Bool
open_fits values first stamp log x =
    eqb x.live 1 && leb x.start.0 stamp && eqb x.rows.0 (rows_in_log first log x.start.0) && leb x.count max_entries
    && all_below (λ i. entry_fits values x.rows.0 (get_or x.at i 0) (get_or x.to i 0)) x.count && all_below (once_fits x) x.count

unfoldable pub session_fits : ℕ → ℕ → ℕ → List ℕ → Session → Bool
session_fits values first stamp log x = all_zero x || open_fits values first stamp log x

unfoldable pub sessions_fit : List ℕ → List ℕ → List Session → Bool
sessions_fit c log sessions = all_below (λ i. session_fits (values_in c) (first_in c) (stamp_in c) log (session_at sessions i)) max_sessions

-- "Number 2 is given exactly if one of these fails."
unfoldable pub sound : Tables → Bool
sound t =
    clock_fits t.clock && records_fit t.clock t.log && changes_fit t.clock t.log t.changes && slots_fit t.clock t.slots
    && heads_fit t.clock t.slots t.heads && vectors_fit t.clock t.log t.slots t.words
    && sessions_fit t.clock t.log t.sessions
