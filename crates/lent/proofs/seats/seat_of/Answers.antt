-- What each of the thin functions says.
use Rattle.lent.specs.Seats.{seat_of}
use Rattle.lent.proofs.seats.seat_of.Goals as goal

pub returns : goal.returns
unfolding seat_of
returns c = cc
