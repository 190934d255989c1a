-- Create: what it needs, and what it makes of the number tables.
use Rattle.std.specs.Prelude.{◌≡◌, List, ℕ, ◌≤◌, length}
use Rattle.tables.specs.declared.session.Session.{Session}
use Rattle.tables.specs.Cells.{Tables}
use Rattle.tables.specs.Room.{Roomy}
use Rattle.lent.specs.Places.{freed_all}
use Rattle.outcomes.specs.declared.answers.Answer.{Answer}
use Rattle.outcomes.specs.declared.answers.Answer.TheVariants.{Count}
use Rattle.outcomes.specs.Calls.{created_tables}

-- what create needs
pub record Creatable (clock slots words heads log changes : List ℕ) (c : ℕ) (col : List ℕ) : Type 0 where
  pub room : Roomy clock slots words heads log changes
  pub few-values : c ≤ 32
  pub few-rows : length col ≤ 2048

-- what it leaves, whatever the session table is, and its answer
pub record Created (before after : List Session → Tables) (c : ℕ) (col : List ℕ) (r : Answer) : Type 0 where
  pub made : (ts : List Session) → after (freed_all ts) ≡ created_tables (before ts) c col
  pub answers : r ≡ Count (length col)
