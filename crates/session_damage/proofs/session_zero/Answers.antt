-- `session_zero` meets its contract: four cells and the list.
use Rattle.session_damage.proofs.EntryLaws.{zero-session}
use Rattle.session_damage.proofs.session_zero.Goals as goal

pub returns : goal.returns
returns c = search zero-session
