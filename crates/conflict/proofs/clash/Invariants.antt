-- `conflict::clash` meets its contract: the whole is what the records, and the entries of this one, from here on say.
use mathlib.Core.Path.{◌≡◌}
use mathlib.Core.Bool.{false}
use Rattle.bits.specs.Tab.{tab}
use Rattle.rules.specs.Commit.{conflicts}
use Rattle.tables.specs.Stretch.{stretch}
use Rattle.tables.specs.Meaning.{change_at, record_at, entries}
use Rattle.conflict.proofs.ClashLaws.{named, entries_hit, records_hit}
use Rattle.conflict.proofs.clash.Given as goal

abbrev pub invariant-loop-i : goal.invariant-loop-i
invariant-loop-i l = (l.found ≡ false)
    × (named l.s (record_at l.log l.changes l.k) ≡ entries_hit (stretch (change_at l.changes) l.from l.to) l.s l.i l.s.count)

abbrev pub invariant-records : goal.invariant-records
invariant-records l = (l.found ≡ false)
    × (conflicts (tab (record_at l.log l.changes) l.k-end) l.s.start.0 (entries l.s) ≡ records_hit l.log l.changes l.s l.k l.k-end)
