-- `picked::place_named` meets its contract.
use Rattle.kerenvuf.proofs.PickedLaws.{named-scratch, named-slot}
use Rattle.kerenvuf.proofs.picked.place_named.Goals as goal

pub returns-then-place-eq0 : goal.returns-then-place-eq0
returns-then-place-eq0 c = search named-scratch

pub returns : goal.returns
returns c = search named-slot
