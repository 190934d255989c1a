-- What the call of the index says, and its answer in numbers.
use Rattle.kerenvuf.proofs.Exported.{encodes}
use Rattle.kerenvuf.proofs.exports.kv_update.Goals as goal

pub returns : goal.returns
returns c = encodes _ _ _ _ _ c.update.ensures c.from.ensures
