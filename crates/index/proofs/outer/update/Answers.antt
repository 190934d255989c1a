-- What the core promises of every table that shows this seat, of the numbers that are narrowed; the session is put back where it is no refusal.
use Rattle.std.proofs.Common.{◌∙◌}
use Rattle.std.proofs.lemmas.Result.{err_from_is_err_and}
use Rattle.outcomes.proofs.NarrowLaws.{update-wide}
use Rattle.index.proofs.outer.update.Goals as goal

pub returns-in_err-session : goal.returns-in_err-session
returns-in_err-session c =
    let p = err_from_is_err_and c.from_residual.result c.from_residual.ensures.1 in
    let served = c.in_err-session.ensures c.args.sessions.now c.seat_of-seat.ensures in
    rw (p.1, p.2) (served ∙ update-wide _ _ _ _ _ _ c.row_of.ensures c.value_of.ensures)

pub returns : goal.returns
returns c =
    let served = c.in_ok-session.ensures c.args.sessions.now c.seat_of-seat.ensures in
    rw c.put.ensures (served ∙ update-wide _ _ _ _ _ _ c.row_of.ensures c.value_of.ensures)
