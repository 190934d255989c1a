-- `later_slots_fit` meets its contract: a scan; the whole is the rest from here on.
use Rattle.tables.proofs.Fold.{scan-again, scan-fails, scan-end}
use Rattle.damage.proofs.SlotLaws.{later-slot}
use Rattle.damage.proofs.slots.later_slots_fit.Goals as goal

pub returns-then-not-fits-link_fits : goal.returns-then-not-fits-link_fits
returns-then-not-fits-link_fits c = search (scan-fails, later-slot)

pub loop-i-preserved : goal.loop-i-preserved
loop-i-preserved c = search (scan-again, later-slot)

pub returns : goal.returns
returns c = search scan-end
