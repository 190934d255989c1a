-- `writes::write_rows` meets its contract: the rows among the first i entries are stored.
use mathlib.Core.Path.{refl}
use native.Mathlib.Omega.{arith}
use Rattle.committing.proofs.WriteLaws.{length-put, rows_start, rows_more, rows-skip}
use Rattle.committing.proofs.writes.write_rows.Goals as goal
use Rattle.committing.proofs.writes.write_rows.Goals.{then-s-i, else-s-i}

pub loop-i-preserved : goal.loop-i-preserved
loop-i-preserved c =
    elim c.if-s-i.branch [
      | then-s-i w ↦ (search length-put, omega arith, search rows_more)
      | else-s-i w ↦ (cc, omega arith, search rows-skip)
    ]

pub loop-i-init : goal.loop-i-init
loop-i-init c = (refl, omega arith, search rows_start)
