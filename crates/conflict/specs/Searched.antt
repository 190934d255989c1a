-- What the search for a conflict needs of the log and of a session.
use Rattle.std.specs.Prelude.{◌≡◌, List, ℕ, ◌≤◌, length}
use Rattle.bits.specs.Tab.{tab}
use Rattle.rules.specs.Log.{above, changes_of}
use Rattle.tables.specs.declared.session.Session.{Session}
use Rattle.tables.specs.Cells.{end_at}
use Rattle.tables.specs.Meaning.{change_at, record_at}
use Rattle.tables.specs.Stretch.{stretch}

-- the ends of the changes lie in their table, and the changes after the start stand there as one stretch
pub record Searched (log changes : List ℕ) (x : Session) (last : ℕ) : Type 0 where
  pub log-room : 2048 ≤ length log
  pub changes-room : 4096 ≤ length changes
  pub last-low : last ≤ 512
  pub count_low : x.count ≤ 32
  pub ends_low : (k : ℕ) → k ≤ last → end_at log k ≤ 2048
  pub start-old : x.start.0 ≤ last
  pub one-stretch : changes_of (above (tab (record_at log changes) last) x.start.0)
      ≡ stretch (change_at changes) (end_at log x.start.0) (end_at log last)
