-- `lists::spot_of` meets its contract: no entry so far has the row.
use Rattle.std.proofs.Common.{◌≡◌}
use Rattle.std.proofs.Math.Option.{none}
use Rattle.bits.specs.Rows.{smallest_below}
use Rattle.outcomes.proofs.ListLaws.{has_row}
use Rattle.outcomes.proofs.lists.spot_of.Given as goal

abbrev pub invariant-loop-i : goal.invariant-loop-i
invariant-loop-i l = smallest_below (has_row l.s l.row.0) l.i ≡ none
