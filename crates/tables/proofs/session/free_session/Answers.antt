-- `free_session` meets its contract.
use mathlib.Core.Path.{refl}
use Rattle.tables.specs.Sessions.{freed}
use Rattle.tables.proofs.session.free_session.Goals as goal

pub returns : goal.returns
unfolding freed
returns c = refl
