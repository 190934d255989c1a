-- `history::last_place` meets its contract: the search backward through what the blocks leave.
use Rattle.std.proofs.Common.{rules, ◌∙◌, sym}
use Rattle.history.proofs.LastLaws.{place-is}
use Rattle.history.proofs.changes.last_place.Goals as goal

pub returns : goal.returns
returns c = place-is _ _ c.blocks_before-end.result _ (search rules) (search rules) ∙ sym c.blocks_before-end.ensures.1
