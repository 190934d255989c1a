-- A session as it is judged before the rest of the tables is: what the log and the clock must be to hold its start and its rows.
use Rattle.std.specs.Prelude.{Bool, ◌&&◌, ◌||◌, List, ℕ, leb, length}
use Rattle.bits.specs.All.{all_below}
use Rattle.rules.specs.Limits.{max_values, max_rows, max_records, max_sessions}
use Rattle.tables.specs.declared.clock.Clock.{Clock}
use Rattle.tables.specs.declared.session.Session.{Session}
use Rattle.tables.specs.Sessions.{session_at}
use Rattle.tables.specs.Damage.{all_zero, open_fits}

-- the log has its cells, the start is one of its stamps, and C and the session's row count are within their limits
unfoldable pub judgeable : Session → List ℕ → Clock → Bool
judgeable x log c =
    leb 2048 (length log) && leb x.start.0 max_records && leb x.rows.0 max_rows && leb c.values.0 max_values

-- "A session is free and all 0, or open with a start at most the stamp, ..", and an open one only where it can be judged
unfoldable pub session_judged : Session → List ℕ → Clock → Bool
session_judged x log c = all_zero x || judgeable x log c && open_fits c.values.0 c.first.0 c.stamp.0 log x

-- all sixteen
unfoldable pub sessions_judged : List Session → List ℕ → Clock → Bool
sessions_judged sessions log c = all_below (λ i. session_judged (session_at sessions i) log c) max_sessions
