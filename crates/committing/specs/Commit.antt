-- Commit on the cells: its tests, its flip sets, its changes, and what each part of it needs and leaves.
use Rattle.std.specs.Prelude.{◌≡◌, cond, List, [], ◌∷◌, ◌++◌, ℕ, ◌+◌, ◌≤◌, ◌<◌, eqb, leb, ltb, length, set}
use Rattle.std.proofs.Math.Option.{Option, none, some}
use Rattle.bits.specs.Bit.{flip_bit}
use Rattle.bits.specs.Tab.{tab}
use Rattle.rules.specs.State.{Change}
use Rattle.rules.specs.Lists.{inserts}
use Rattle.rules.specs.Commit.{row_changes, conflicts}
use Rattle.rules.specs.Refusals.{Test}
use Rattle.tables.specs.declared.session.Session.{Session}
use Rattle.tables.specs.Cells.{values_in, stamp_in, rows_in, changes_in, end_at}
use Rattle.tables.specs.Stores.{put_record}
use Rattle.tables.specs.Meaning.{record_at, entry_at, entries}
use Rattle.history.specs.Last.{last_set}
use Rattle.history.specs.Read.{read_cells, ReadReady}
use Rattle.outcomes.specs.declared.answers.Answer.{Answer}
use Rattle.outcomes.specs.Said.{numbers_of, numbers}
use Rattle.outcomes.specs.Stores.{put_changes}
use Rattle.outcomes.specs.Opened.{Usable}
use Rattle.conflict.specs.Searched.{Searched}

-- ---- 11, 12, 15, 16 and 17, on the cells

unfoldable pub commit_tests : List ℕ → List ℕ → List ℕ → Session → List Test
commit_tests clock log changes x =
    (eqb x.count 0, 11) ∷ (conflicts (tab (record_at log changes) (stamp_in clock)) x.start.0 (entries x), 12)
    ∷ (ltb 2048 (rows_in clock + length (inserts (entries x))), 15) ∷ (leb 512 (stamp_in clock), 16)
    ∷ (ltb 2048 (changes_in clock + x.count), 17) ∷ []

-- what they need
pub record CommitAsked (clock log changes : List ℕ) (x : Session) : Type 0 where
  pub clock-room : 6 ≤ length clock
  pub rows_few : rows_in clock ≤ 2048
  pub changes-few : changes_in clock ≤ 2048
  pub searched : Searched log changes x (stamp_in clock)

-- ---- the flip sets

-- "toggled (if present)": a set has 32 values, and a cell may hold more
unfoldable pub toggled_in : ℕ → Option ℕ → ℕ
toggled_in m none = m
toggled_in m (some a) = cond (ltb a 32) (flip_bit m a) m

-- "the new set is the flip set at s with a toggled (if present), then b toggled (if present)"
unfoldable pub new_cells : List ℕ → List ℕ → List ℕ → List ℕ → List ℕ → ℕ → ℕ → ℕ → Option ℕ → ℕ
new_cells slots words heads log changes values s row b =
    toggled_in (toggled_in (last_set changes 0 (end_at log s) row) (read_cells slots words heads log changes values s row)) b

-- "An insert gets the next row number and the set {value}."
abbrev pub insert_cells : ℕ → List ℕ → List Change
insert_cells n [] = []
insert_cells n (v ∷ vs) = record { row = n; flips = toggled_in 0 (some v) } ∷ insert_cells (n + 1) vs

-- ---- the changes of the listed rows

-- what the change of listed row i needs at place p
pub record RowReady (clock slots words heads log changes : List ℕ) (x : Session) (i p : ℕ) : Type 0 where
  pub clock-room : 6 ≤ length clock
  pub readable : ReadReady slots words heads log changes (values_in clock) x.start.0
  pub entry-low : i < 32
  pub place-low : p < 2048

-- what those of all listed rows need from place `from` on: the changes up to the start stand before it
pub record RowsReady (clock slots words heads log changes : List ℕ) (x : Session) (from : ℕ) : Type 0 where
  pub clock-room : 6 ≤ length clock
  pub readable : ReadReady slots words heads log changes (values_in clock) x.start.0
  pub count_low : x.count ≤ 32
  pub start-before : end_at log x.start.0 ≤ from
  pub places-low : from + x.count ≤ 2048

-- the rows among the first i entries are stored from place `from` on, with the sets that g gives, up to place p
pub record RowsStored (g : ℕ → Option ℕ → ℕ) (x : Session) (from : ℕ) (changes changes' : List ℕ) (i p : ℕ) : Type 0 where
  pub stored : changes' ≡ put_changes changes from (row_changes g (tab (entry_at x) i))
  pub place : p ≡ from + length (row_changes g (tab (entry_at x) i))

-- ---- the changes of the inserts

-- what they need from place `from` on
pub record InsertsReady (changes : List ℕ) (x : Session) (from rows : ℕ) : Type 0 where
  pub changes-room : 4096 ≤ length changes
  pub count_low : x.count ≤ 32
  pub rows-low : rows ≤ 2048
  pub places-low : from + length (inserts (entries x)) ≤ 2048

-- the inserts among the first i entries are stored from place `from` on, with the rows from `rows` on, up to place p and row r
pub record InsertsStored (x : Session) (from rows : ℕ) (changes changes' : List ℕ) (i p r : ℕ) : Type 0 where
  pub stored : changes' ≡ put_changes changes from (insert_cells rows (inserts (tab (entry_at x) i)))
  pub place : p ≡ from + length (inserts (tab (entry_at x) i))
  pub next_row : r ≡ rows + length (inserts (tab (entry_at x) i))

-- ---- the record and the clock

-- the record after the stamp, and the clock one stamp later
pub record Recorded (clock log : List ℕ) (rows end : ℕ) (clock' log' : List ℕ) (a : Answer) : Type 0 where
  pub clock-is : clock' ≡ set (set (set clock 2 (stamp_in clock + 1)) 3 rows) 5 end
  pub log_is : log' ≡ put_record log (stamp_in clock) 1 rows end
  pub says : numbers_of a ≡ numbers ((stamp_in clock + 1) ∷ rows ∷ [])

-- ---- all of it

-- what a commit needs beyond an open session: room for its record and its changes
pub record CommitReady (clock slots words heads log changes : List ℕ) (x : Session) : Type 0 where
  pub usable : Usable clock slots words heads log changes x
  pub stamp-low : stamp_in clock < 512
  pub places-low : changes_in clock + x.count ≤ 2048

-- the row count after it
abbrev pub rows_after : List ℕ → Session → ℕ
rows_after clock x = rows_in clock + length (inserts (entries x))

-- its changes: "listed rows first, inserts after"
abbrev pub changes_made : List ℕ → List ℕ → List ℕ → List ℕ → List ℕ → List ℕ → Session → List Change
changes_made clock slots words heads log changes x =
    let sets = new_cells slots words heads log changes (values_in clock) x.start.0 in
    row_changes sets (entries x) ++ insert_cells (rows_in clock) (inserts (entries x))

-- the tables after it, and its answer
pub record Committed (clock slots words heads log changes : List ℕ) (x : Session) (clock' log' changes' : List ℕ)
    (a : Answer) : Type 0 where
  pub recorded : Recorded clock log (rows_after clock x) (changes_in clock + x.count) clock' log' a
  pub stored : changes' ≡ put_changes changes (changes_in clock) (changes_made clock slots words heads log changes x)
