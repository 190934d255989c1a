-- Number 1: "clock, versions, heads, log, changes or sessions lent without room for its full limit".
use Rattle.std.specs.Prelude.{Bool, ◌&&◌, List, ℕ, ◌≤◌, leb, length}
use Rattle.tables.specs.Cells.{Tables}

-- six cells of the clock; 96 slots of three cells and 32 words; 32 heads; 512 records of four cells; 2,048 changes of two; 16 sessions,
-- where the session table is known by its length alone, `places`
unfoldable pub room_for : List ℕ → List ℕ → List ℕ → List ℕ → List ℕ → List ℕ → ℕ → Bool
room_for clock slots words heads log changes places =
    leb 6 (length clock) && leb 288 (length slots) && leb 3072 (length words) && leb 32 (length heads) && leb 2048 (length log)
    && leb 4096 (length changes) && leb 16 places

unfoldable pub roomy : Tables → Bool
roomy t = room_for t.clock t.slots t.words t.heads t.log t.changes (length t.sessions)

-- the number tables have room, as facts on their lengths
pub record Roomy (clock slots words heads log changes : List ℕ) : Type 0 where
  pub clock-room : 6 ≤ length clock
  pub slots-room : 288 ≤ length slots
  pub words-room : 3072 ≤ length words
  pub heads-room : 32 ≤ length heads
  pub log-room : 2048 ≤ length log
  pub changes-room : 4096 ≤ length changes
