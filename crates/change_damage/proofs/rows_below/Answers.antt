-- `rows_below` meets its contract: against 2,048 by the bits of all rows together, else one by one, from an earlier change on.
use Rattle.change_damage.proofs.ChangeLaws.{early-start}
use Rattle.change_damage.proofs.GatherLaws.{rows-gathered}
use Rattle.change_damage.proofs.rows_below.Goals as goal

pub returns-then-rows-eq-MAX_ROWS : goal.returns-then-rows-eq-MAX_ROWS
returns-then-rows-eq-MAX_ROWS c = search rows-gathered

pub returns : goal.returns
returns c = search early-start
