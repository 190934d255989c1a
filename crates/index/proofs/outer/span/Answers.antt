-- What the core promises of every table that shows this seat, of the number that is narrowed.
use Rattle.std.proofs.Common.{◌∙◌}
use Rattle.outcomes.proofs.NarrowLaws.{span-wide}
use Rattle.index.proofs.outer.span.Goals as goal

pub returns : goal.returns
returns c = c.span_in.ensures c.args.sessions.now c.seat_of-seat.ensures ∙ span-wide _ _ _ _ _ _ _ c.value_of-low.ensures c.value_of-high.ensures
