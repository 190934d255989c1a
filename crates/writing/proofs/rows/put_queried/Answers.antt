-- `rows::put_queried` meets its contract.
use native.Mathlib.Omega.{arith}
use Rattle.writing.proofs.RowLaws.{query-rows, count_small}
use Rattle.writing.proofs.rows.put_queried.Goals as goal

pub overflow_cast-n : goal.overflow_cast-n
overflow_cast-n c = omega (arith, count_small _ _ c.count-n.ensures c.requires.0)

pub returns : goal.returns
returns c = search query-rows
