-- What the core promises of every table that shows this seat; the session is freed where it is no refusal.
use Rattle.std.proofs.lemmas.Result.{err_from_is_err_and}
use Rattle.index.proofs.outer.commit.Goals as goal

pub returns-in_err-answer : goal.returns-in_err-answer
returns-in_err-answer c =
    let p = err_from_is_err_and c.from_residual.result c.from_residual.ensures.1 in
    rw (p.1, p.2) (c.in_err-answer.ensures c.args.sessions.now c.seat_of-seat.ensures)

pub returns : goal.returns
returns c = rw c.free.ensures (c.in_ok-answer.ensures c.args.sessions.now c.seat_of-seat.ensures)
