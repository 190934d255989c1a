-- `enter::in_reach` meets its contract.
use Rattle.outcomes.specs.Enter.{in_reach}
use mathlib.Core.Path.{refl}
use Rattle.outcomes.proofs.enter.in_reach.Goals as goal

pub returns : goal.returns
unfolding in_reach
returns c = refl
