-- `run` meets its contract: at the loop's head, the bytes that the reads gave are gone through.
use mathlib.Core.Bool.{true}
use Rattle.tables.specs.Cells.{tables}
use Rattle.steps.specs.Desk.{desk}
use Rattle.steps.specs.Program.{Read}
use Rattle.steps.proofs.run.Given as goal

abbrev pub invariant-loop : goal.invariant-loop
invariant-loop l =
    Read (desk (tables l.initial.clock l.initial.slots l.initial.words l.initial.heads l.initial.log l.initial.changes l.initial.sessions) l.initial.scratch) l.initial.pending l.initial.stand.pending
    l.initial.stand.heard l.initial.stand.told
    (desk (tables l.clock l.slots l.words l.heads l.log l.changes l.sessions) l.scratch) l.pending l.stand.pending l.stand.heard l.stand.told
    true
