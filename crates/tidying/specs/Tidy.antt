-- Tidy on the cells: its tests, its changes, its slot, its record, and what each part of it needs.
use Rattle.std.specs.Prelude.{Result, ◌≡◌, Bool, ◌||◌, List, [], ◌∷◌, map, ℕ, ◌+◌, ◌*◌, ◌≤◌, ◌<◌, eqb, leb, ltb, length, set}
use Rattle.bits.specs.Bit.{bit, clear_bit}
use Rattle.bits.specs.Part.{put_part}
use Rattle.bits.specs.Rows.{count_of, rows_of}
use Rattle.bits.specs.Vec.{vec}
use Rattle.bits.specs.Words.{bit_at}
use Rattle.rules.specs.State.{Change}
use Rattle.rules.specs.Log.{some_change}
use Rattle.rules.specs.Refusals.{Test, first_of}
use Rattle.tables.specs.declared.session.Session.{Session}
use Rattle.tables.specs.declared.refusal.Refusal.{Refusal}
use Rattle.tables.specs.Cells.{Tables, tables, stamp_in, rows_in, slots_in, changes_in, slot_stamp, head_of, end_at}
use Rattle.tables.specs.Clock.{clock_in, later}
use Rattle.tables.specs.Meaning.{change_at}
use Rattle.tables.specs.Stores.{put_slot, put_head, put_record}
use Rattle.tables.specs.Stretch.{stretch}
use Rattle.tables.specs.Room.{Roomy}
use Rattle.history.specs.Version.{Headed, Based}
use Rattle.history.specs.Last.{last_set}
use Rattle.history.specs.Flips.{flipped_in, RowsLow}
use Rattle.history.specs.Query.{queried_at}
use Rattle.outcomes.specs.declared.answers.Answer.{Answer}
use Rattle.tidying.specs.declared.tidy.Plan.{Plan}
use Rattle.outcomes.specs.Said.{numbers_of, said, numbers}
use Rattle.outcomes.specs.Outcome.{Outcome, outcome, unless}
use Rattle.outcomes.specs.Stores.{put_changes}

-- ---- 14

-- "names a moved row, or .. has a change whose set has v"
abbrev pub hinders : List ℕ → ℕ → Change → Bool
hinders moved v c = bit_at moved c.row || bit c.flips v

unfoldable pub touched_in : List ℕ → ℕ → ℕ → List ℕ → ℕ → Bool
touched_in changes a b moved v = some_change (hinders moved v) (stretch (change_at changes) a b)

-- "the head of v has a stamp above s, or some record above s .."
unfoldable pub stale_at : List ℕ → List ℕ → List ℕ → List ℕ → ℕ → ℕ → ℕ → List ℕ → Bool
stale_at slots heads log changes last s v moved =
    ltb s (slot_stamp slots (head_of heads v)) || touched_in changes (end_at log s) (end_at log last) moved v

-- what it needs
pub record Datable (slots heads log changes : List ℕ) (last s v : ℕ) : Type 0 where
  pub headed : Headed slots heads v
  pub log-room : 2048 ≤ length log
  pub changes-room : 4096 ≤ length changes
  pub last-low : last ≤ 512
  pub start-low : s ≤ 512
  pub end_low : end_at log last ≤ 2048

-- ---- 13, 14, 16, 17 and 18

unfoldable pub tidy_tests : List ℕ → List ℕ → List ℕ → List ℕ → List ℕ → ℕ → ℕ → List ℕ → List Test
tidy_tests clock slots heads log changes s v moved =
    (eqb (count_of moved) 0, 13) ∷ (stale_at slots heads log changes (stamp_in clock) s v moved, 14) ∷ (leb 512 (stamp_in clock), 16)
    ∷ (ltb 2048 (changes_in clock + count_of moved), 17) ∷ (leb 96 (slots_in clock), 18) ∷ []

-- ---- the changes of the moved rows

-- "their flip sets at s less v": of a row, by the changes up to `to`
abbrev pub less_at : List ℕ → ℕ → ℕ → ℕ → Change
less_at changes to v r = record { row = r; flips = clear_bit (last_set changes 0 to r) v }

-- changes of rows are put from `from` on, up to place p
pub record RowsPut (rows : List ℕ) (from to v : ℕ) (changes changes' : List ℕ) (p : ℕ) : Type 0 where
  pub stored : changes' ≡ put_changes changes from (map (less_at changes to v) rows)
  pub place : p ≡ from + length rows

-- what the changes of n rows need from place `from` on: the changes that they are made of stand before it
pub record Puttable (changes : List ℕ) (from to v n : ℕ) : Type 0 where
  pub changes-room : 4096 ≤ length changes
  pub old-before : to ≤ from
  pub places-low : from + n ≤ 2048
  pub value_low : v < 32

-- ---- the slot

-- what the vector of slot k needs
pub record Fillable (slots words heads log changes : List ℕ) (k s v : ℕ) : Type 0 where
  pub based : Based slots heads log s v
  pub words-room : 3072 ≤ length words
  pub slot-low : k < 96
  pub start-low : s ≤ 512
  pub rows : RowsLow changes 0 (end_at log s)

-- "a new slot for v holds the vector queried at s, linked to the old head, with stamp now plus 1; the head moves"
pub record VersionPut (slots words heads log changes : List ℕ) (k now s v : ℕ) (slots' words' heads' : List ℕ) : Type 0 where
  pub slots-are : slots' ≡ put_slot slots k v now (head_of heads v + 1)
  pub words_are : words' ≡ put_part (32 * k) (vec (queried_at slots words heads log changes s v) 32) words
  pub heads-are : heads' ≡ put_head heads v k

-- ---- all of it

-- what a tidy needs
pub record Tidyable (clock slots words heads log changes : List ℕ) (s v : ℕ) : Type 0 where
  pub room : Roomy clock slots words heads log changes
  pub based : Based slots heads log s v
  pub rows : RowsLow changes 0 (end_at log s)
  pub start-old : s ≤ stamp_in clock
  pub few-records : stamp_in clock ≤ 512
  pub few-changes : changes_in clock ≤ 2048
  pub last_end : end_at log (stamp_in clock) ≡ changes_in clock
  pub end-old : end_at log s ≤ changes_in clock

-- and one that is not refused
pub record TidyReady (clock slots words heads log changes : List ℕ) (s v : ℕ) (moved : List ℕ) : Type 0 where
  pub tidyable : Tidyable clock slots words heads log changes s v
  pub stamp-low : stamp_in clock < 512
  pub places-low : changes_in clock + count_of moved ≤ 2048
  pub slot-low : slots_in clock < 96

-- what is worked out of it before anything is written: the clock after it, its slot, where its changes start, where those up to s
-- end, how many rows move
pub record Plannable (clock log : List ℕ) (s : ℕ) (moved : List ℕ) : Type 0 where
  pub clock-room : 6 ≤ length clock
  pub log-room : 2048 ≤ length log
  pub stamp-low : stamp_in clock < 512
  pub start-low : s ≤ 512
  pub few-moved : count_of moved ≤ 2048

unfoldable pub plan_of : List ℕ → List ℕ → ℕ → List ℕ → Plan
plan_of clock log s moved = record {
  next = later (clock_in clock) (clock_in clock).rows;
  slot = slots_in clock;
  used = changes_in clock;
  to = end_at log s;
  count = count_of moved;
}

-- the rows that it moves
unfoldable pub moved_in : List ℕ → List ℕ → ℕ → ℕ → List ℕ
moved_in log changes s v = vec (flipped_in changes 0 (end_at log s) v) 32

-- the clock and the log after it, where `moved` counts the rows
abbrev pub tidy_clock : List ℕ → ℕ → List ℕ
tidy_clock clock moved =
    set (set (set (set clock 2 (stamp_in clock + 1)) 3 (rows_in clock)) 4 (slots_in clock + 1)) 5 (changes_in clock + moved)

abbrev pub tidy_log : List ℕ → List ℕ → ℕ → List ℕ
tidy_log clock log moved = put_record log (stamp_in clock) 2 (rows_in clock) (changes_in clock + moved)

-- the tables after it, and its answer: "stamp and number moved"
unfoldable pub tidied_cells : Tables → ℕ → ℕ → List ℕ → Outcome
tidied_cells t s v moved =
    let k = slots_in t.clock in
    outcome
    (tables (tidy_clock t.clock (count_of moved)) (put_slot t.slots k v (stamp_in t.clock + 1) (head_of t.heads v + 1))
    (put_part (32 * k) (vec (queried_at t.slots t.words t.heads t.log t.changes s v) 32) t.words) (put_head t.heads v k)
    (tidy_log t.clock t.log (count_of moved))
    (put_changes t.changes (changes_in t.clock) (map (less_at t.changes (end_at t.log s) v) (rows_of moved))) t.sessions)
    [] (numbers ((stamp_in t.clock + 1) ∷ count_of moved ∷ []))

-- a tidy that is done, whatever the session table is
abbrev pub Tidied : (List Session → Tables) → (List Session → Tables) → ℕ → ℕ → List ℕ → Answer → Type 0
Tidied before after s v moved a = (ts : List Session) → outcome (after ts) [] (numbers_of a) ≡ tidied_cells (before ts) s v moved

-- a tidy that its own tests may refuse
unfoldable pub tidy_cells : Tables → ℕ → ℕ → Outcome
tidy_cells t s v =
    let moved = moved_in t.log t.changes s v in
    unless (first_of (tidy_tests t.clock t.slots t.heads t.log t.changes s v moved)) t [] (tidied_cells t s v moved)

abbrev pub Tidies : (List Session → Tables) → (List Session → Tables) → ℕ → ℕ → Result Answer Refusal → Type 0
Tidies before after s v a = (ts : List Session) → outcome (after ts) [] (said a) ≡ tidy_cells (before ts) s v
