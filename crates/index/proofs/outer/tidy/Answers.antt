-- What the core promises of every table that shows this seat, of the number that is narrowed.
use Rattle.std.proofs.Common.{◌∙◌}
use Rattle.outcomes.proofs.NarrowLaws.{tidy-wide}
use Rattle.index.proofs.outer.tidy.Goals as goal

pub returns : goal.returns
returns c = c.tidy_in.ensures c.args.sessions.now c.seat_of-seat.ensures ∙ tidy-wide _ _ _ _ c.value_of.ensures
