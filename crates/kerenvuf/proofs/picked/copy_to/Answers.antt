-- `picked::copy_to` meets its contract.
use lib.Seq.{length-take-le}
use Rattle.kerenvuf.proofs.PickedLaws.{no_part, no_room, same-room, copied-over}
use Rattle.kerenvuf.proofs.picked.copy_to.Goals as goal

pub returns-then-part-ne32 : goal.returns-then-part-ne32
returns-then-part-ne32 c = search no_part

pub returns-then-out-lt32 : goal.returns-then-out-lt32
returns-then-out-lt32 c = search no_room

pub slice_bounds-copy-end-2 : goal.slice_bounds-copy-end-2
slice_bounds-copy-end-2 c = search length-take-le

pub copy-requires : goal.copy-requires
copy-requires c = search same-room

pub returns : goal.returns
returns c = search copied-over
