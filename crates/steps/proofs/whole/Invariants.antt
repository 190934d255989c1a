-- `whole` meets its contract: at the loop's head, the lines done so far are the first of the chunk's, and their answers were handed over.
use mathlib.Core.Path.{◌≡◌}
use mathlib.Core.Bool.{true}
use Prim.Native.Nat.{◌-◌}
use lib.ListN.{length}
use Rattle.tables.specs.Cells.{tables}
use Rattle.steps.specs.Desk.{desk}
use Rattle.steps.proofs.ProgramLaws.{Along}
use Rattle.steps.proofs.whole.Given as goal

abbrev pub invariant-loop-next : goal.invariant-loop-next
invariant-loop-next l =
    Along l.bytes (desk (tables l.initial.clock l.initial.slots l.initial.words l.initial.heads l.initial.log l.initial.changes l.initial.sessions) l.initial.scratch) l.initial.pending l.initial.stand.pending
    l.initial.stand.told
    (desk (tables l.clock l.slots l.words l.heads l.log l.changes l.sessions) l.scratch) l.pending l.stand.pending l.next
    l.stand.told true
    × (l.stand.heard ≡ l.initial.stand.heard)

abbrev pub decreases-loop-next : goal.decreases-loop-next
decreases-loop-next l = length l.bytes - l.next
