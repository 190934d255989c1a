-- `put_changes_used` meets its contract: one store.
use mathlib.Core.Path.{refl}
use Rattle.tables.specs.Stores.{put_changes_used}
use Rattle.tables.proofs.clock.put_changes_used.Goals as goal

pub returns : goal.returns
unfolding put_changes_used
returns c = refl
