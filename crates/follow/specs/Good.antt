-- Tables that no call refuses by 1 or 2, with cells as their types have them.
use Rattle.std.specs.Prelude.{◌≡◌, true, List, ℕ, ◌<◌, length}
use Rattle.tables.specs.declared.session.Session.{Session}
use Rattle.tables.specs.Cells.{Tables}
use Rattle.tables.specs.Sessions.{session_at}
use Rattle.tables.specs.Room.{roomy}
use Rattle.tables.specs.Damage.{sound}

-- the two arrays of a session have 32 cells, as its type says
pub record Wide (x : Session) : Type 0 where
  pub at_wide : length x.at ≡ 32
  pub to-wide : length x.to ≡ 32

-- and those of each of the sixteen sessions
abbrev pub AllWide : List Session → Type 0
AllWide sessions = (i : ℕ) → i < 16 → Wide (session_at sessions i)

-- room, no damage, and sessions as their type has them
pub record Good (t : Tables) : Type 0 where
  pub room : roomy t ≡ true
  pub whole : sound t ≡ true
  pub wide : AllWide t.sessions
