-- `replies::put_ok_two` meets its contract.
use borrow.Author.Rules.{rules}
use Rattle.writing.proofs.WroteLaws.{ok-more}
use Rattle.writing.proofs.replies.put_ok_two.Goals as goal

pub returns : goal.returns
returns c = search (ok-more, rules)
