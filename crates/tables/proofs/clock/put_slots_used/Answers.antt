-- `put_slots_used` meets its contract: one store.
use mathlib.Core.Path.{refl}
use Rattle.tables.specs.Stores.{put_slots_used}
use Rattle.tables.proofs.clock.put_slots_used.Goals as goal

pub returns : goal.returns
unfolding put_slots_used
returns c = refl
