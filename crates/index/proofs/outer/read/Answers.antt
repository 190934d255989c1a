-- What the core promises of every table that shows this seat, of the number that is narrowed.
use Rattle.std.proofs.Common.{◌∙◌}
use Rattle.outcomes.proofs.NarrowLaws.{read_wide}
use Rattle.index.proofs.outer.read.Goals as goal

pub returns : goal.returns
returns c = c.read_in.ensures c.args.sessions.now c.seat_of-seat.ensures ∙ read_wide _ _ _ _ c.row_of.ensures
