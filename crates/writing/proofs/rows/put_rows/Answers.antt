-- `rows::put_rows` meets its contract: the rows of the words that were passed are written.
use mathlib.Core.Path.{refl}
use native.Mathlib.Omega.{arith}
use Rattle.writing.proofs.RowLaws.{worded-none, worded-step, worded-end}
use Rattle.writing.proofs.rows.put_rows.Goals as goal

pub loop-i-init : goal.loop-i-init
loop-i-init c = worded-none _ _ _

pub loop-i-preserved : goal.loop-i-preserved
loop-i-preserved c = worded-step _ _ _ _ _ _ c.loop-i.invariant _ _ _ _ refl c.narrow.ensures c.put_word-at.ensures

pub returns : goal.returns
returns c = worded-end _ _ _ _ _ _ c.loop-i.invariant (omega arith)
