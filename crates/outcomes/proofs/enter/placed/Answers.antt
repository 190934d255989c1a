-- `enter::placed` meets its contract.
use Rattle.outcomes.proofs.EnterLaws.{no_room, found-room, sessions-unfit, numbers-unfit, first-decides, past-table, in_table}
use Rattle.outcomes.proofs.enter.placed.Goals as goal

pub returns-then-not-room : goal.returns-then-not-room
returns-then-not-room c = search no_room

pub returns-then-not-fit : goal.returns-then-not-fit
returns-then-not-fit c = search sessions-unfit

pub numbers_fit-requires : goal.numbers_fit-requires
numbers_fit-requires c = search found-room

pub returns-then-not-numbers_fit : goal.returns-then-not-numbers_fit
returns-then-not-numbers_fit c = search numbers-unfit

pub returns-then-n-gt15 : goal.returns-then-n-gt15
returns-then-n-gt15 c = search (first-decides, past-table)

pub returns : goal.returns
returns c = search (first-decides, in_table)
