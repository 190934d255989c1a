-- `conflict::entry_named` meets its contract: an insert is never named; a row is where a change names it.
use Rattle.conflict.proofs.ClashLaws.{insert-unnamed, row_named}
use Rattle.conflict.proofs.entry_named.Goals as goal

pub returns-then-at : goal.returns-then-at
returns-then-at c = search insert-unnamed

pub returns : goal.returns
returns c = search row_named
