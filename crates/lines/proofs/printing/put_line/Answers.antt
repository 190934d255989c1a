-- `printing::put_line` meets its contract.
use Rattle.lines.proofs.AnswerLaws.{put-answered}
use Rattle.lines.proofs.printing.put_line.Goals as goal

pub returns : goal.returns
returns c = search put-answered
