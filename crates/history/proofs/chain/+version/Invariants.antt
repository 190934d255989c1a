-- The slot number falls at each link.
use Rattle.history.proofs.chain.+version.Given as goal

abbrev pub decreases-version : goal.decreases-version
decreases-version l = l.i
