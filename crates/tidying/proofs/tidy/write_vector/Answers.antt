-- `tidy::write_vector` meets its contract.
use mathlib.Core.Path.{sym}
use Rattle.history.proofs.QueryLaws.{slot-length}
use Rattle.tidying.proofs.SlotLaws.{vector-written}
use Rattle.tidying.proofs.tidy.write_vector.Goals as goal

pub copy-requires : goal.copy-requires
copy-requires c = slot-length _ _ _ c.slot_words.ensures c.base_of-base.ensures.0 c.requires.words-room

pub returns : goal.returns
returns c = search vector-written
