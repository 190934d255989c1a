-- The session is stored where the slice has the place.
use Rattle.std.proofs.Common.{sym, ◌∙◌}
use Rattle.lent.proofs.PlaceLaws.{stored-there, stored-nowhere}
use Rattle.lent.proofs.sessions.put.Goals as goal

pub returns-then-within : goal.returns-then-within
returns-then-within c = stored-there c.args.t.now c.args.n c.args.s (sym c.within.ensures ∙ c.if-within.true)

pub returns-else-within : goal.returns-else-within
returns-else-within c = stored-nowhere c.args.t.now c.args.n c.args.s (sym c.within.ensures ∙ c.if-within.false)
