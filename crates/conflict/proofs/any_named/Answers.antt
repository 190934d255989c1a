-- `conflict::any_named` meets its contract: the changes of the records after the start are one stretch.
use Rattle.conflict.proofs.ClashLaws.{whole-named}
use Rattle.conflict.proofs.any_named.Goals as goal

pub returns : goal.returns
returns c = search whole-named
