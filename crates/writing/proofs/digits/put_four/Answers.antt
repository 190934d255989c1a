-- `digits::put_four` meets its contract.
use Rattle.writing.proofs.WroteLaws.{wrote-four}
use Rattle.writing.proofs.digits.put_four.Goals as goal

pub returns : goal.returns
returns c = search wrote-four
