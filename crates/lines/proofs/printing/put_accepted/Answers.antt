-- `printing::put_accepted` meets its contract.
use Rattle.lines.proofs.AnswerLaws.{queried-few, queried-fits, put_count, put-at, put-read, put-listed}
use Rattle.lines.proofs.printing.put_accepted.Goals as goal

pub put_queried-requires : goal.put_queried-requires
put_queried-requires c = (search queried-few, search queried-fits)

pub returns-in-Count : goal.returns-in-Count
returns-in-Count c = search put_count

pub returns-in-At : goal.returns-in-At
returns-in-At c = search put-at

pub returns-in-Read : goal.returns-in-Read
returns-in-Read c = search put-read

pub returns-in-Listed : goal.returns-in-Listed
returns-in-Listed c = search put-listed
