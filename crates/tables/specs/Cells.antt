-- Where each number lies: the lent tables as one record, and the cells of each by name.
use Rattle.std.specs.Prelude.{List, ℕ, zero, suc, ◌+◌, ◌*◌, get_or, take, drop, Option, Some, None}
use Rattle.tables.specs.declared.session.Session.{Session}

-- the lent tables; "versions" of document 01 is slots and words together
pub record Tables : Type 0 where
  pub clock : List ℕ
  pub slots : List ℕ
  pub words : List ℕ
  pub heads : List ℕ
  pub log : List ℕ
  pub changes : List ℕ
  pub sessions : List Session

abbrev pub tables : List ℕ → List ℕ → List ℕ → List ℕ → List ℕ → List ℕ → List Session → Tables
tables clock slots words heads log changes sessions =
    record { clock = clock; slots = slots; words = words; heads = heads; log = log; changes = changes; sessions = sessions }

-- "Clock: C, first row count, stamp, row count."; beside that record the slots and the changes in use
abbrev pub values_in : List ℕ → ℕ
values_in clock = get_or clock 0 0

abbrev pub first_in : List ℕ → ℕ
first_in clock = get_or clock 1 0

abbrev pub stamp_in : List ℕ → ℕ
stamp_in clock = get_or clock 2 0

abbrev pub rows_in : List ℕ → ℕ
rows_in clock = get_or clock 3 0

abbrev pub slots_in : List ℕ → ℕ
slots_in clock = get_or clock 4 0

abbrev pub changes_in : List ℕ → ℕ
changes_in clock = get_or clock 5 0

-- "at most 96 slots, each a value, a stamp, a link and a vector": a link is 0 for none, else one more than the slot's number
abbrev pub slot_value : List ℕ → ℕ → ℕ
slot_value slots i = get_or slots i 0

abbrev pub slot_stamp : List ℕ → ℕ → ℕ
slot_stamp slots i = get_or slots (96 + i) 0

abbrev pub slot_link : List ℕ → ℕ → ℕ
slot_link slots i = get_or slots (192 + i) 0

-- the number of a link: 0 for none, else one more than the slot's
abbrev pub link_of : Option ℕ → ℕ
link_of None = 0
link_of (Some i) = suc i

unfoldable pub slot_words : List ℕ → ℕ → List ℕ
slot_words words i = take 32 (drop (32 * i) words)

-- "A head per value names its newest slot."
abbrev pub head_of : List ℕ → ℕ → ℕ
head_of heads v = get_or heads v 0

-- "Record k has stamp k, a kind (commit or tidy), the row count after it and its changes.": of record k + 1 its stamp, its kind
-- (1 commit, 2 tidy), its row count, and where its changes end; they start where those before ended
abbrev pub record_stamp : List ℕ → ℕ → ℕ
record_stamp log k = get_or log k 0

abbrev pub record_kind : List ℕ → ℕ → ℕ
record_kind log k = get_or log (512 + k) 0

abbrev pub record_rows : List ℕ → ℕ → ℕ
record_rows log k = get_or log (1024 + k) 0

abbrev pub record_end : List ℕ → ℕ → ℕ
record_end log k = get_or log (1536 + k) 0

-- the row count at stamp s, and where the changes of records 1 to s end
abbrev pub rows_in_log : ℕ → List ℕ → ℕ → ℕ
rows_in_log first log zero = first
rows_in_log first log (suc k) = record_rows log k

abbrev pub end_at : List ℕ → ℕ → ℕ
end_at log zero = 0
end_at log (suc k) = record_end log k

-- "a change is a row and a flip set"
abbrev pub change_row : List ℕ → ℕ → ℕ
change_row changes p = get_or changes p 0

abbrev pub change_set : List ℕ → ℕ → ℕ
change_set changes p = get_or changes (2048 + p) 0
