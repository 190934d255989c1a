-- The first change that names the row ends the search; where none does, it ends with the changes.
use borrow.Author.Rules.{rules}
use Rattle.history.proofs.LastLaws.{names-none, named_here, named_past, named_none}
use Rattle.history.proofs.changes.named.Goals as goal

pub loop-p-init : goal.loop-p-init
loop-p-init c = search (names-none, rules)

pub returns-then-changes-p : goal.returns-then-changes-p
returns-then-changes-p c = search named_here

pub loop-p-preserved : goal.loop-p-preserved
loop-p-preserved c = search named_past

pub returns : goal.returns
returns c = search named_none
