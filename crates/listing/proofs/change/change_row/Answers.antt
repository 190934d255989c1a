-- `change::change_row` meets its contract: one law for each of its ends.
use Rattle.listing.proofs.ChangeCores.{change-no-row, change-stands, change-absent, change-on}
use Rattle.listing.proofs.change.change_row.Goals as goal

pub returns-then-s-row : goal.returns-then-s-row
returns-then-s-row c = search change-no-row

pub standing-requires : goal.standing-requires
standing-requires c = search change-stands

pub returns-in_default : goal.returns-in_default
returns-in_default c = change-absent _ _ _ _ _ _ _ _ _ c.if-s-row.false c.in_default.ensures

pub returns : goal.returns
returns c = change-on _ _ _ _ _ _ _ _ _ c.if-s-row.false _ _ c.in-Some.ensures c.listed.ensures
