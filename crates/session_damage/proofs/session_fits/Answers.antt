-- `session_fits` meets its contract: a free session, and an open one by its start and its entries.
use Rattle.session_damage.proofs.JudgedLaws.{free-judged, bad-start, entries-decide}
use Rattle.session_damage.proofs.session_fits.Goals as goal

pub returns-then-s-ne1 : goal.returns-then-s-ne1
returns-then-s-ne1 c = search free-judged

pub returns-else-start_fits : goal.returns-else-start_fits
returns-else-start_fits c = search bad-start

pub returns-then-start_fits : goal.returns-then-start_fits
returns-then-start_fits c = search entries-decide
