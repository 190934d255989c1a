-- `turns::turn` meets its contract.
use Rattle.lines.proofs.TurnLaws.{part_length, create-turns, none-turns}
use Rattle.lines.proofs.TurnLaws.{begin-turns, query-turns, read-turns, update-turns, delete-turns}
use Rattle.lines.proofs.TurnLaws.{insert-turns, commit-turns, tidy-turns, abort-turns}
use Rattle.lines.proofs.turns.turn.Goals as goal

pub returns-in_default : goal.returns-in_default
returns-in_default c = search none-turns

pub slice_bounds-create-end : goal.slice_bounds-create-end
slice_bounds-create-end c = search part_length

pub returns-in-Column : goal.returns-in-Column
returns-in-Column c = search create-turns

pub returns-in-Begin : goal.returns-in-Begin
returns-in-Begin c = search begin-turns

pub returns-in-Query : goal.returns-in-Query
returns-in-Query c = search query-turns

pub returns-in-Read : goal.returns-in-Read
returns-in-Read c = search read-turns

pub returns-in-Update : goal.returns-in-Update
returns-in-Update c = search update-turns

pub returns-in-Delete : goal.returns-in-Delete
returns-in-Delete c = search delete-turns

pub returns-in-Insert : goal.returns-in-Insert
returns-in-Insert c = search insert-turns

pub returns-in-Commit : goal.returns-in-Commit
returns-in-Commit c = search commit-turns

pub returns-in-Tidy : goal.returns-in-Tidy
returns-in-Tidy c = search tidy-turns

pub returns-in-Abort : goal.returns-in-Abort
returns-in-Abort c = search abort-turns
