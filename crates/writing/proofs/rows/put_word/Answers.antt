-- `rows::put_word` meets its contract: what is written of the rows, and what is still to come, is the whole.
use native.Mathlib.Omega.{arith}
use Rattle.writing.proofs.RowLaws.{rowing-none, rowing-step, rowing-end, row_lt, row_room, row-less}
use Rattle.writing.proofs.rows.put_word.Goals as goal

pub loop-x-init : goal.loop-x-init
loop-x-init c = search rowing-none

pub overflow_add-base : goal.overflow_add-base
overflow_add-base c = omega (arith, row_lt _ _ _ _ _ _ _ c.loop-x.invariant c.loop-x-test.true (omega arith))

pub put_row-at-requires : goal.put_row-at-requires
put_row-at-requires c = (search row_lt, search row_room)

pub loop-x-smaller : goal.loop-x-smaller
loop-x-smaller c = search row-less

pub loop-x-preserved : goal.loop-x-preserved
loop-x-preserved c = search rowing-step

pub returns : goal.returns
returns c = rowing-end _ _ _ _ _ _ _ c.loop-x.invariant c.loop-x-test.false
