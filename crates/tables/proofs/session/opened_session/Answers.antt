-- `opened_session` meets its contract.
use mathlib.Core.Path.{refl}
use Rattle.tables.specs.Sessions.{begun}
use Rattle.tables.proofs.session.opened_session.Goals as goal

pub returns : goal.returns
unfolding begun
returns c = refl
