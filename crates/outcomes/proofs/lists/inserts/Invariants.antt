-- `lists::inserts` meets its contract: the count is that of the first i entries.
use Rattle.std.proofs.Common.{◌≡◌, ◌≤◌, length}
use Rattle.bits.specs.Tab.{tab}
use Rattle.rules.specs.Lists.{inserts}
use Rattle.tables.specs.Meaning.{entry_at}
use Rattle.outcomes.proofs.lists.inserts.Given as goal

abbrev pub invariant-loop-i : goal.invariant-loop-i
invariant-loop-i l = (l.k ≤ l.i) × (l.k ≡ length (inserts (tab (entry_at l.s) l.i)))
