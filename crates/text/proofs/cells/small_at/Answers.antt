-- `text::cells::small_at` meets its contract.
use Rattle.std.proofs.Common.{sym, ◌∙◌, arith}
use Rattle.text.proofs.CellLaws.{small-none, small-over, small_is}
use Rattle.text.proofs.cells.small_at.Goals as goal

pub returns-in_err-got : goal.returns-in_err-got
returns-in_err-got c = c.from_residual.ensures ∙ small-none _ _ (sym c.in_err-got.was ∙ c.number_at.ensures)

pub returns-then-got-gt-LARGEST_VALUE : goal.returns-then-got-gt-LARGEST_VALUE
returns-then-got-gt-LARGEST_VALUE c = small-over _ _ _ (sym c.in_ok-got.was ∙ c.number_at.ensures) (omega arith)

pub returns : goal.returns
returns c = small_is _ _ _ (sym c.in_ok-got.was ∙ c.number_at.ensures) (omega arith)
