-- What each call leaves in the lent tables and answers: the refusals, else exactly these stores.
use Rattle.std.specs.Prelude.{cond, List, [], ◌∷◌, ◌++◌, map, ℕ, ◌+◌, ◌*◌, eqb, ltb, length, get_or, replicate}
use Rattle.std.proofs.Math.Option.{Option, none, some}
use Rattle.bits.specs.Tab.{tab, over}
use Rattle.bits.specs.Vec.{vec}
use Rattle.bits.specs.Column.{column_bit, value_of}
use Rattle.bits.specs.Rows.{smallest_below}
use Rattle.rules.specs.State.{chain, session}
use Rattle.rules.specs.Versions.{queried}
use Rattle.rules.specs.Lists.{inserts}
use Rattle.rules.specs.Commit.{commit_changes}
use Rattle.rules.specs.Tidy.{moved, tidy_changes}
use Rattle.rules.specs.Calls.{Column, create, begin, read, update, delete, insert, commit, tidy, abort}
use Rattle.rules.specs.Refusals.{read_in}
use Rattle.tables.specs.declared.session.Session.{Session}
use Rattle.tables.specs.Cells.{Tables, tables, stamp_in, rows_in, slots_in, changes_in, head_of}
use Rattle.tables.specs.Clock.{clock_in}
use Rattle.tables.specs.Sessions.{freed, begun, with_entry}
use Rattle.tables.specs.Meaning.{meaning, entries}
use Rattle.lent.specs.Places.{seat_at, freed_all}
use Rattle.outcomes.specs.Said.{numbers, value}
use Rattle.outcomes.specs.Outcome.{Outcome, outcome, refusal_at, refusal_of_create, unless}
use Rattle.outcomes.specs.Stores.{Store, clock_cell, slot_cell, head_cell, seat, stores, change_stores, record_stores, word_stores}

-- the session that a call is for
abbrev pub own : Tables → ℕ → Session
own t n = seat_at t.sessions n

-- another session at its place
abbrev pub reseated : Tables → ℕ → Session → Tables
reseated t n x = stores t (seat n x ∷ [])

-- Begin: "opens a free session with the current stamp and row count. On an open session it answers the start it already has and
-- changes nothing"
unfoldable pub beginning : Tables → ℕ → Session → Outcome
beginning t n x =
    cond (eqb x.live 1) (outcome t [] (numbers (x.start.0 ∷ x.rows.0 ∷ [])))
    (outcome (reseated t n (begun (clock_in t.clock).stamp (clock_in t.clock).rows)) []
    (numbers (stamp_in t.clock ∷ rows_in t.clock ∷ [])))

unfoldable pub begin_of : Tables → ℕ → Outcome
begin_of t n = unless (refusal_at t (begin n)) t [] (beginning t n (own t n))

-- Read: "the smallest v whose query has the bit; absent if none"
unfoldable pub read_of : Tables → ℕ → ℕ → Outcome
read_of t n r = unless (refusal_at t (read n r)) t [] (outcome t [] (value (read_in (meaning t) (session (meaning t) n) r)))

-- where in a list row r stands: its entry, or the count where it is not listed
abbrev pub or_place : Option ℕ → ℕ → ℕ
or_place none n = n
or_place (some i) n = i

unfoldable pub spot_of : Session → ℕ → ℕ
spot_of x r = or_place (smallest_below (λ i. eqb (get_or x.at i 0) r) x.count) x.count

-- an entry set at a place of the list, which may be the one after its last
abbrev pub listed_at : Session → ℕ → ℕ → ℕ → Session
listed_at x i at to = with_entry x i at to (cond (ltb i x.count) x.count (x.count + 1))

-- "The answer is the list's length."
abbrev pub put_back : Tables → ℕ → Session → Outcome
put_back t n x = outcome (reseated t n x) [] (numbers (x.count ∷ []))

-- Update, delete: "A second change of a row replaces the entry where it stands."; the target 255 is absent
unfoldable pub update_of : Tables → ℕ → ℕ → ℕ → Outcome
update_of t n r v = unless (refusal_at t (update n r v)) t [] (put_back t n (listed_at (own t n) (spot_of (own t n) r) r v))

unfoldable pub delete_of : Tables → ℕ → ℕ → Outcome
delete_of t n r = unless (refusal_at t (delete n r)) t [] (put_back t n (listed_at (own t n) (spot_of (own t n) r) r 255))

-- Insert: the row cell 65,535
unfoldable pub insert_of : Tables → ℕ → ℕ → Outcome
insert_of t n v = unless (refusal_at t (insert n v)) t [] (put_back t n (listed_at (own t n) (own t n).count 65535 v))

-- Abort: "frees the session and answers the length of the list dropped"
unfoldable pub abort_of : Tables → ℕ → Outcome
abort_of t n = unless (refusal_at t (abort n)) t [] (outcome (reseated t n freed) [] (numbers ((own t n).count ∷ [])))

-- Commit: its changes, its record, the clock, and the session freed
abbrev pub commit_rows : Tables → ℕ → ℕ
commit_rows t n = rows_in t.clock + length (inserts (entries (own t n)))

abbrev pub commit_stores : Tables → ℕ → List Store
commit_stores t n =
    let stamp = stamp_in t.clock in
    let used = changes_in t.clock in
    let end = used + (own t n).count in
    change_stores used (commit_changes (meaning t) (own t n).start.0 (entries (own t n))) ++ record_stores stamp 1 (commit_rows t n) end
    ++ clock_cell 2 (stamp + 1) ∷ clock_cell 3 (commit_rows t n) ∷ clock_cell 5 end ∷ seat n freed ∷ []

unfoldable pub commit_of : Tables → ℕ → Outcome
commit_of t n =
    unless (refusal_at t (commit n)) t []
    (outcome (stores t (commit_stores t n)) [] (numbers ((stamp_in t.clock + 1) ∷ commit_rows t n ∷ [])))

-- Tidy: "a new slot for v holds the vector queried at s, linked to the old head, with stamp now plus 1; the head moves; a tidy
-- record of that stamp lists the moved rows in ascending order with their flip sets at s less v"
abbrev pub tidy_stores : Tables → ℕ → ℕ → List Store
tidy_stores t s v =
    let stamp = stamp_in t.clock in
    let used = changes_in t.clock in
    let k = slots_in t.clock in
    let cs = tidy_changes (meaning t).log s v in
    let end = used + length cs in
    word_stores (32 * k) (vec (queried (meaning t).log (chain (meaning t).chains v) s v) 32)
    ++ slot_cell k v ∷ slot_cell (96 + k) (stamp + 1) ∷ slot_cell (192 + k) (head_of t.heads v + 1) ∷ head_cell v k ∷ []
    ++ change_stores used cs ++ record_stores stamp 2 (rows_in t.clock) end
    ++ clock_cell 2 (stamp + 1) ∷ clock_cell 3 (rows_in t.clock) ∷ clock_cell 4 (k + 1) ∷ clock_cell 5 end ∷ []

unfoldable pub tidy_of : Tables → ℕ → ℕ → Outcome
tidy_of t n v =
    let s = (own t n).start.0 in
    unless (refusal_at t (tidy n v)) t []
    (outcome (stores t (tidy_stores t s v)) [] (numbers ((stamp_in t.clock + 1) ∷ length (moved (meaning t).log s v) ∷ [])))

-- Create: "It makes slots 0 to C-1 with stamp 0, one per value, no links": cell i of the slot cells, and of the heads, is i below C,
-- so that slot i has value i and head i names it; every other cell of theirs, each stamp and each link too, is 0
abbrev pub below : ℕ → ℕ → ℕ
below c i = cond (ltb i c) i 0

-- "Every unused cell within the needed table lengths becomes 0; cells beyond stay.": `over xs d` is xs stored over the first cells
-- of d, and the rest of d as it was. In order: the clock's six cells (C, first row count, stamp 0, row count, C slots in use, no
-- change in use); the values, stamps and links of the 96 slots; their 96 vectors of 32 words, that of slot v below C with the rows
-- that hold v; the 32 heads; the four cells of each of the 512 records, and the two of each of the 2,048 changes, all 0; and the
-- sixteen sessions, all free
abbrev pub created_tables : Tables → ℕ → List ℕ → Tables
created_tables t c col =
    tables (over (c ∷ length col ∷ 0 ∷ length col ∷ c ∷ 0 ∷ []) t.clock) (over (tab (below c) 288) t.slots)
    (over (vec (column_bit col) 3072) t.words) (over (tab (below c) 32) t.heads) (over (replicate 2048 0) t.log)
    (over (replicate 4096 0) t.changes) (freed_all t.sessions)

-- the column that bytes are: "a value, or 255 for absent"
abbrev pub column_of : List ℕ → Column
column_of col = map value_of col

unfoldable pub create_of : Tables → ℕ → List ℕ → Outcome
create_of t c col =
    unless (refusal_of_create t (create c (column_of col))) t [] (outcome (created_tables t c col) [] (numbers (length col ∷ [])))
