-- `history::last_naming` meets its contract.
use mathlib.Core.Path.{◌∙◌}
use Rattle.history.proofs.LastLaws.{place-fits, last_none, last_some}
use borrow.Author.Rules.{rules}
use Rattle.history.proofs.changes.last_naming.Goals as goal

pub returns-in_err-at : goal.returns-in_err-at
returns-in_err-at c = c.from_residual.ensures ∙ last_none _ _ _ c.in_err-at.ensures

pub change_set-requires : goal.change_set-requires
change_set-requires c = (place-fits _ _ _ _ c.in_ok-at.ensures c.requires.0, search rules)

pub returns : goal.returns
returns c = last_some _ _ _ _ c.in_ok-at.ensures _ c.change_set.ensures
