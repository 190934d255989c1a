-- The refusals of each call, as a table in the order in which they are judged: a test and its number.
use Rattle.std.specs.Prelude.{◌≡◌, Bool, true, false, not, ◌&&◌, ◌||◌, cond, List, [], ◌∷◌, ◌++◌, ℕ, ◌+◌, eqb, leb, ltb, length}
use Rattle.std.proofs.Math.Option.{Option, none, some}
use Rattle.rules.specs.Limits.{max_values, max_rows, max_slots, max_records, max_changes, max_sessions, max_entries, vector_words}
use Rattle.rules.specs.State.{State, Session, session, is_free, start_of, rows_of, list_of, chain, Entry}
use Rattle.rules.specs.Log.{stamp_of, all_changes}
use Rattle.rules.specs.Versions.{read_at, spanned_rows}
use Rattle.rules.specs.Lists.{target, lists, inserts, standing}
use Rattle.rules.specs.Commit.{conflicts}
use Rattle.rules.specs.Tidy.{moved, stale}
use Rattle.rules.specs.Calls.{Column, Call, create, begin, query, span, read, update, delete, insert, commit, tidy, abort}

-- a refusal's condition, and its number
abbrev pub Test : Type 0
Test = Bool × ℕ

-- the number of the first test that holds
abbrev pub first_of : List Test → Option ℕ
first_of [] = none
first_of (t ∷ ts) = cond t.0 (some t.1) (first_of ts)

-- every test of a table fails
abbrev pub AllFail : List Test → Type 0
AllFail [] = Unit {0}
AllFail (t ∷ ts) = (t.0 ≡ false) × AllFail ts

-- a test of a table holds, with the number n, and those before it fail
pub record First (ts : List Test) (n : ℕ) : Type 0 where
  pub before : List Test
  pub after : List Test
  pub split : ts ≡ before ++ ((true, n) ∷ after)
  pub fail : AllFail before

-- "a byte neither below C nor 255": a value not below C
abbrev pub outside : ℕ → Option ℕ → Bool
outside C none = false
outside C (some a) = leb C a

abbrev pub some_outside : ℕ → Column → Bool
some_outside C [] = false
some_outside C (o ∷ col) = outside C o || some_outside C col

-- 3: "C is 0 or above 32, over 2,048 rows, or a byte neither below C nor 255"
unfoldable pub bad_column : ℕ → Column → Bool
bad_column C col = eqb C 0 || ltb max_values C || ltb max_rows (length col) || some_outside C col

-- 4: "session number above 15"
abbrev pub no_session : ℕ → Test
no_session i = (leb max_sessions i, 4)

-- 5: "session not open"
abbrev pub not_open : Session → Test
not_open x = (is_free x, 5)

-- 6: "value not below C"
abbrev pub no_value : State → ℕ → Test
no_value st v = (leb st.values v, 6)

-- 7: "row not below the start row count"
abbrev pub no_row : Session → ℕ → Test
no_row x r = (leb (rows_of x) r, 7)

-- the read of a row in a session, and its standing value
abbrev pub read_in : State → Session → ℕ → Option ℕ
read_in st x r = read_at st.values st.log st.chains (start_of x) r

abbrev pub standing_in : State → Session → ℕ → Option ℕ
standing_in st x r = standing (target (list_of x) r) (read_in st x r)

abbrev pub is_absent : Option ℕ → Bool
is_absent none = true
is_absent (some a) = false

-- 8: "row's standing value absent"
abbrev pub row_absent : State → Session → ℕ → Test
row_absent st x r = (is_absent (standing_in st x r), 8)

abbrev pub is_full : List Entry → Bool
is_full es = leb max_entries (length es)

-- 9: "list has 32 entries and this needs a new one"
abbrev pub list_full_for : Session → ℕ → Test
list_full_for x r = (is_full (list_of x) && not (lists (list_of x) r), 9)

abbrev pub list_full : Session → Test
list_full x = (is_full (list_of x), 9)

-- 10: "scratch below 32 words"
abbrev pub short_scratch : ℕ → Test
short_scratch n = (ltb n vector_words, 10)

abbrev pub is_empty : {A : Type 0} → List A → Bool
is_empty [] = true
is_empty (x ∷ xs) = false

-- 11: "list empty"
abbrev pub list_empty : Session → Test
list_empty x = (is_empty (list_of x), 11)

-- 12: "conflict"
abbrev pub conflict : State → Session → Test
conflict st x = (conflicts st.log (start_of x) (list_of x), 12)

-- 13: "no row to move"
abbrev pub nothing_to_move : State → Session → ℕ → Test
nothing_to_move st x v = (is_empty (moved st.log (start_of x) v), 13)

-- 14: "stale"
abbrev pub is_stale : State → Session → ℕ → Test
is_stale st x v = (stale st.log (chain st.chains v) (start_of x) v, 14)

-- 15: "rows would pass 2,048"
abbrev pub rows_full : State → Session → Test
rows_full st x = (ltb max_rows (st.rows + length (inserts (list_of x))), 15)

-- 16: "512 records already"
abbrev pub records_full : State → Test
records_full st = (leb max_records (stamp_of st.log), 16)

-- 17: "changes would pass 2,048", by n more
abbrev pub changes_full : State → ℕ → Test
changes_full st n = (ltb max_changes (length (all_changes st.log) + n), 17)

-- 18: "96 slots already"
abbrev pub slots_full : State → Test
slots_full st = (leb max_slots st.slots, 18)

-- 20: "first value above the last"
abbrev pub backward : ℕ → ℕ → Test
backward a b = (ltb b a, 20)

-- the rows of a span in a session
abbrev pub spanned_in : State → Session → ℕ → ℕ → List ℕ
spanned_in st x a b = spanned_rows st.log st.chains (start_of x) a b

-- 21: "list shorter than the answer"
abbrev pub short_list : State → Session → ℕ → ℕ → ℕ → Test
short_list st x a b n = (ltb n (length (spanned_in st x a b)), 21)

-- the table
unfoldable pub tests : State → Call → List Test
tests st (create C col) = (bad_column C col, 3) ∷ []
tests st (begin i) = no_session i ∷ []
tests st (query i v t n) = no_session i ∷ not_open (session st i) ∷ no_value st v ∷ short_scratch n ∷ []
tests st (span i a b n) =
    let x = session st i in
    no_session i ∷ not_open x ∷ no_value st a ∷ no_value st b ∷ backward a b ∷ short_list st x a b n ∷ []
tests st (read i r) = no_session i ∷ not_open (session st i) ∷ no_row (session st i) r ∷ []
tests st (update i r v) =
    let x = session st i in
    no_session i ∷ not_open x ∷ no_value st v ∷ no_row x r ∷ row_absent st x r ∷ list_full_for x r ∷ []
tests st (delete i r) =
    let x = session st i in
    no_session i ∷ not_open x ∷ no_row x r ∷ row_absent st x r ∷ list_full_for x r ∷ []
tests st (insert i v) =
    let x = session st i in
    no_session i ∷ not_open x ∷ no_value st v ∷ list_full x ∷ []
tests st (commit i) =
    let x = session st i in
    no_session i ∷ not_open x ∷ list_empty x ∷ conflict st x ∷ rows_full st x ∷ records_full st ∷ changes_full st (length (list_of x)) ∷ []
tests st (tidy i v) =
    let x = session st i in
    no_session i ∷ not_open x ∷ no_value st v ∷ nothing_to_move st x v ∷ is_stale st x v ∷ records_full st
    ∷ changes_full st (length (moved st.log (start_of x) v)) ∷ slots_full st ∷ []
tests st (abort i) = no_session i ∷ not_open (session st i) ∷ []

-- "The smallest number that applies is given."
abbrev pub refusal : State → Call → Option ℕ
refusal st c = first_of (tests st c)
