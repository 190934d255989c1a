-- Single stores into the lent tables, applied one after another.
use Rattle.std.specs.Prelude.{List, [], ◌∷◌, ℕ, ◌+◌, set}
use Rattle.rules.specs.State.{Change}
use Rattle.tables.specs.declared.session.Session.{Session}
use Rattle.tables.specs.Cells.{Tables, tables}
use Rattle.tables.specs.Stores.{put_change}

-- a cell of a number table gets a number; a place of the session table gets a session
pub data Store : Type 0 where
  clock_cell slot_cell word_cell head_cell log_cell change_cell : ℕ → ℕ → Store
  seat : ℕ → Session → Store

abbrev pub store : Tables → Store → Tables
store t (clock_cell i x) = tables (set t.clock i x) t.slots t.words t.heads t.log t.changes t.sessions
store t (slot_cell i x) = tables t.clock (set t.slots i x) t.words t.heads t.log t.changes t.sessions
store t (word_cell i x) = tables t.clock t.slots (set t.words i x) t.heads t.log t.changes t.sessions
store t (head_cell i x) = tables t.clock t.slots t.words (set t.heads i x) t.log t.changes t.sessions
store t (log_cell i x) = tables t.clock t.slots t.words t.heads (set t.log i x) t.changes t.sessions
store t (change_cell i x) = tables t.clock t.slots t.words t.heads t.log (set t.changes i x) t.sessions
store t (seat i x) = tables t.clock t.slots t.words t.heads t.log t.changes (set t.sessions i x)

abbrev pub stores : Tables → List Store → Tables
stores t [] = t
stores t (s ∷ ss) = stores (store t s) ss

-- changes from place p on: each its row and its flip set
abbrev pub change_stores : ℕ → List Change → List Store
change_stores p [] = []
change_stores p (c ∷ cs) = change_cell p c.row ∷ change_cell (2048 + p) c.flips ∷ change_stores (p + 1) cs

-- the record after stamp k: its stamp, its kind, its row count, the end of its changes
abbrev pub record_stores : ℕ → ℕ → ℕ → ℕ → List Store
record_stores k kind rows end = log_cell k (k + 1) ∷ log_cell (512 + k) kind ∷ log_cell (1024 + k) rows ∷ log_cell (1536 + k) end ∷ []

-- words from place p on
abbrev pub word_stores : ℕ → List ℕ → List Store
word_stores p [] = []
word_stores p (w ∷ ws) = word_cell p w ∷ word_stores (p + 1) ws

-- the change table with changes put one after another from place p on
unfoldable pub put_changes : List ℕ → ℕ → List Change → List ℕ
put_changes l p [] = l
put_changes l p (c ∷ cs) = put_changes (put_change l p c.row c.flips) (p + 1) cs
