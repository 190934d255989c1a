-- `put_head` meets its contract: one store.
use Rattle.tables.specs.Stores.{put_head}
use Rattle.tables.proofs.Access.{set-at-same}
use Rattle.tables.proofs.cells.put_head.Goals as goal

pub returns : goal.returns
unfolding put_head
returns c = search set-at-same
