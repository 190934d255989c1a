-- `history::block_names` meets its contract. The invariant: what the changes so far name.
use borrow.Author.Rules.{rules}
use Rattle.history.proofs.LastLaws.{names-none, block-fold}
use Rattle.history.proofs.changes.block_names.Goals as goal

pub loop-c-init : goal.loop-c-init
loop-c-init c = search (names-none, rules)

pub loop-c-preserved : goal.loop-c-preserved
loop-c-preserved c = search block-fold
