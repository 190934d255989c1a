-- `replies::put_absent` meets its contract.
use Rattle.writing.proofs.WroteLaws.{ok-dash}
use Rattle.writing.proofs.replies.put_absent.Goals as goal

pub returns : goal.returns
returns c = search ok-dash
