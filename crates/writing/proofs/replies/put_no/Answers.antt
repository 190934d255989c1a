-- `replies::put_no` meets its contract.
use Rattle.writing.proofs.WroteLaws.{no_one}
use Rattle.writing.proofs.replies.put_no.Goals as goal

pub returns : goal.returns
returns c = search no_one
