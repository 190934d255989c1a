-- `vector_fits` meets its contract: the 32 words of the slot, at the row count of its stamp.
use Rattle.damage.proofs.VectorLaws.{one-vector}
use Rattle.damage.proofs.tails.vector_fits.Goals as goal

pub returns : goal.returns
returns c = search one-vector
