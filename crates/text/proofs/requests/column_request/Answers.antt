-- `text::requests::column_request` meets its contract.
use Rattle.std.proofs.Common.{sym, ◌∙◌}
use Rattle.text.proofs.RequestLaws.{column-stuck, column-bad, column-is}
use Rattle.text.proofs.requests.column_request.Goals as goal

pub returns-in_err-first : goal.returns-in_err-first
returns-in_err-first c = rw c.from_residual.ensures (column-stuck _ _ _ (sym c.in_err-first.was ∙ c.small_at.ensures))

pub returns-in_err-rows : goal.returns-in_err-rows
returns-in_err-rows c =
    rw c.from_residual-in_err-rows.ensures
    (column-bad _ _ _ _ (sym c.in_ok-first.was ∙ c.small_at.ensures) _ (rw c.in_err-rows.was at c.column_into.ensures))

pub returns : goal.returns
returns c = column-is _ _ _ _ (sym c.in_ok-first.was ∙ c.small_at.ensures) _ _ (rw c.in_ok-rows.was at c.column_into.ensures)
