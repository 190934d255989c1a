-- The place is read where the slice has it.
use Rattle.std.proofs.Common.{sym, ◌∙◌}
use Rattle.lent.proofs.PlaceLaws.{place-there, place-nowhere}
use Rattle.lent.proofs.sessions.place.Goals as goal

pub returns-then-within : goal.returns-then-within
returns-then-within c = place-there c.args.t.now c.args.n _ (sym c.within.ensures ∙ c.if-within.true)

pub returns-else-within : goal.returns-else-within
returns-else-within c =
    c.free_session.ensures ∙ place-nowhere c.args.t.now c.args.n (sym c.within.ensures ∙ c.if-within.false)
