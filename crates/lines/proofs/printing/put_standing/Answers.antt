-- `printing::put_standing` meets its contract.
use Rattle.lines.proofs.AnswerLaws.{put_holds, put-none}
use Rattle.lines.proofs.printing.put_standing.Goals as goal

pub returns-in-Some : goal.returns-in-Some
returns-in-Some c = search put_holds

pub returns-in-None : goal.returns-in-None
returns-in-None c = search put-none
