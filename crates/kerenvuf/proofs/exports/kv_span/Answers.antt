-- What the call of the index says, and its answer in numbers.
use Rattle.kerenvuf.proofs.Exported.{encodes}
use Rattle.kerenvuf.proofs.exports.kv_span.Goals as goal

pub returns : goal.returns
returns c = encodes _ _ _ _ _ c.span.ensures c.from.ensures
