-- `with_entry` meets its contract: two cells and the count.
use mathlib.Core.Path.{refl}
use Rattle.tables.specs.Sessions.{with_entry}
use Rattle.tables.proofs.session.with_entry.Goals as goal

pub returns : goal.returns
unfolding with_entry
returns c = refl
