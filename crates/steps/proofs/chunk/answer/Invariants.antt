-- `chunk::answer` meets its contract: at the loop's head, the lines answered so far are the first of those that were left.
use Rattle.std.proofs.Common.{◌-◌, length}
use Rattle.tables.specs.Cells.{tables}
use Rattle.steps.specs.Desk.{desk}
use Rattle.steps.specs.Answers.{spot, Comes}
use Rattle.steps.proofs.chunk.answer.Given as goal

abbrev pub invariant-lines : goal.invariant-lines
invariant-lines l =
    Comes l.bytes
    (spot (desk (tables l.initial.clock l.initial.slots l.initial.words l.initial.heads l.initial.log l.initial.changes l.initial.sessions)
    l.initial.scratch) l.initial.pending l.initial.len l.initial.out l.initial.filled l.initial.at)
    (spot (desk (tables l.clock l.slots l.words l.heads l.log l.changes l.sessions) l.scratch) l.pending l.len l.out l.filled l.at)

abbrev pub decreases-lines : goal.decreases-lines
decreases-lines l = length l.bytes - l.at
