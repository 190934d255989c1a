-- What the call of the index says, and its answer in numbers.
use Rattle.kerenvuf.proofs.Exported.{encodes}
use Rattle.kerenvuf.proofs.exports.kv_abort.Goals as goal

pub returns : goal.returns
returns c = encodes _ _ _ _ _ c.abort.ensures c.from.ensures
