-- `text::cells::cells_into` meets its contract: what is stored and counted, and what is still to come, is the whole.
use Rattle.std.proofs.Common.{sym, ◌∙◌, arith}
use Rattle.text.proofs.ColumnLaws.{filling-none, filling-end, cell-byte, run_step, run-less, run-stop}
use Rattle.text.proofs.cells.cells_into.Goals as goal

pub loop-at-init : goal.loop-at-init
loop-at-init c = filling-none _ _ _ _

pub returns-in_err-cell : goal.returns-in_err-cell
returns-in_err-cell c =
    rw c.from_residual.ensures
    (run-stop _ _ _ _ _ _ c.loop-at.invariant _ _ c.run_into-run.ensures (sym c.in_err-cell.was ∙ c.long_cell.ensures))

pub overflow_cast-column : goal.overflow_cast-column
overflow_cast-column c = omega (arith, cell-byte _ _ _ (sym c.in_ok-cell.was ∙ c.long_cell.ensures))

pub loop-at-smaller : goal.loop-at-smaller
loop-at-smaller c =
    run-less _ _ _ _ _ _ c.loop-at.invariant _ _ c.run_into-run.ensures _ (sym c.in_ok-cell.was ∙ c.long_cell.ensures) c.loop-at-test.true

pub loop-at-preserved : goal.loop-at-preserved
loop-at-preserved c =
    run_step _ _ _ _ _ _ c.loop-at.invariant _ _ c.run_into-run.ensures _ (sym c.in_ok-cell.was ∙ c.long_cell.ensures)

pub returns : goal.returns
returns c = search filling-end
