-- `history::query_at` meets its contract.
use borrow.Author.Rules.{rules}
use Rattle.history.proofs.QueryLaws.{count_low, own-found, own-scratch, turned-found, turned-scratch}
use Rattle.history.proofs.query.query_at.Goals as goal

pub returns-then-n-eq0 : goal.returns-then-n-eq0
returns-then-n-eq0 c = (search own-found, search own-scratch)

pub overflow_cast-result : goal.overflow_cast-result
overflow_cast-result c = search (count_low, rules)

pub returns : goal.returns
returns c = (search turned-found, search turned-scratch)
