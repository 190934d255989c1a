-- `picked::kv_picked` meets its contract.
use Rattle.kerenvuf.proofs.PickedLaws.{picked-to}
use Rattle.kerenvuf.proofs.picked.kv_picked.Goals as goal

pub returns : goal.returns
returns c = search picked-to
