-- `tidy::fill` meets its contract.
use Rattle.tidying.proofs.SlotLaws.{filled}
use Rattle.tidying.proofs.tidy.fill.Goals as goal

pub returns : goal.returns
returns c = filled _ _ _ c.fits-base c.fits-mask c.told-base c.told-mask c.xor_into.ensures
