-- `each_vector_fits` meets its contract: a scan; the whole is the rest from here on.
use native.Mathlib.Omega.{arith}
use Rattle.tables.proofs.Fold.{scan-again, scan-fails, scan-end}
use Rattle.damage.proofs.VectorLaws.{stamp-low}
use Rattle.damage.proofs.tails.each_vector_fits.Goals as goal

pub vector_fits-requires : goal.vector_fits-requires
vector_fits-requires c = (omega arith, omega arith, omega arith, omega arith, search stamp-low)

pub returns-then-not-vector_fits : goal.returns-then-not-vector_fits
returns-then-not-vector_fits c = search scan-fails

pub loop-i-preserved : goal.loop-i-preserved
loop-i-preserved c = search scan-again

pub returns : goal.returns
returns c = search scan-end
