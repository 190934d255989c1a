-- `history::flips` meets its contract. The invariant: the mask is what the changes so far flip.
use native.Mathlib.Omega.{arith}
use Rattle.history.proofs.LastLaws.{mask-none, mask-more, mask-all}
use Rattle.history.proofs.mask.flips.Goals as goal

pub loop-p-init : goal.loop-p-init
loop-p-init c = (omega arith, mask-none _ _ 0 _ 32)

pub loop-p-preserved : goal.loop-p-preserved
loop-p-preserved c = (omega arith, search mask-more)

pub returns : goal.returns
returns c = search mask-all
