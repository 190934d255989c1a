-- `replies::put_ok` meets its contract.
use Rattle.writing.proofs.WroteLaws.{ok-none}
use Rattle.writing.proofs.replies.put_ok.Goals as goal

pub returns : goal.returns
returns c = search ok-none
