-- What the core promises of every table that shows this seat; the session is opened where it is free.
use Rattle.std.proofs.lemmas.Result.{err_from_is_err_and}
use Rattle.index.proofs.outer.begin.Goals as goal

pub returns-in_err-start : goal.returns-in_err-start
returns-in_err-start c =
    let p = err_from_is_err_and c.from_residual.result c.from_residual.ensures.1 in
    rw (p.1, p.2) (c.in_err-start.ensures c.args.sessions.now c.seat_of-seat.ensures)

pub returns-in-Opened : goal.returns-in-Opened
returns-in-Opened c = rw c.open.ensures (rw c.in-Opened.is at c.in_ok-start.ensures c.args.sessions.now c.seat_of-seat.ensures)

pub returns-in-Stands : goal.returns-in-Stands
returns-in-Stands c = rw c.in-Stands.is at c.in_ok-start.ensures c.args.sessions.now c.seat_of-seat.ensures
