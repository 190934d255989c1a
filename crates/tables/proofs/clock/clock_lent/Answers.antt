-- `clock_lent` meets its contract.
use Rattle.tables.proofs.Access.{clock-short, clock-long}
use Rattle.tables.proofs.clock.clock_lent.Goals as goal

pub returns-then-clock-lt6 : goal.returns-then-clock-lt6
returns-then-clock-lt6 c = search clock-short

pub returns : goal.returns
returns c = search clock-long
