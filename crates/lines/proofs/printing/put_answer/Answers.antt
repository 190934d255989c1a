-- `printing::put_answer` meets its contract.
use Rattle.lines.proofs.AnswerLaws.{put_refused, put_accepted}
use Rattle.lines.proofs.printing.put_answer.Goals as goal

pub returns-in-Ok : goal.returns-in-Ok
returns-in-Ok c = search put_accepted

pub returns-in-Err : goal.returns-in-Err
returns-in-Err c = search put_refused
