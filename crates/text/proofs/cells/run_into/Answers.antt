-- `text::cells::run_into` meets its contract: what is stored and counted, and what is still to come, is the whole.
use Rattle.std.proofs.Common.{rules, arith}
use Rattle.text.proofs.ColumnLaws.{filling-none, filling-near, filling-ran, near-byte, near-less, near-inside}
use Rattle.text.proofs.cells.run_into.Goals as goal

pub loop-at-init : goal.loop-at-init
loop-at-init c = (search rules, filling-none _ _ _ _)

pub overflow_cast-column : goal.overflow_cast-column
overflow_cast-column c = omega (arith, near-byte _ _ _ c.in-Some.ensures)

pub loop-at-smaller : goal.loop-at-smaller
loop-at-smaller c = near-less _ _ _ c.in-Some.ensures c.loop-at.invariant.0

pub loop-at-preserved : goal.loop-at-preserved
loop-at-preserved c = (near-inside _ _ _ c.in-Some.ensures, filling-near _ _ _ _ _ _ _ c.loop-at.invariant.1 _ c.in-Some.ensures)

pub returns : goal.returns
returns c = search filling-ran
