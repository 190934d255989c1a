-- `writes::write_inserts` meets its contract: the inserts among the first i entries are stored.
use mathlib.Core.Path.{refl}
use native.Mathlib.Omega.{arith}
use Rattle.committing.proofs.WriteLaws.{length-put}
use Rattle.committing.proofs.WriteLaws.{inserts-start, insert-place, inserts-more, inserts-skip}
use Rattle.committing.proofs.writes.write_inserts.Goals as goal
use Rattle.committing.proofs.writes.write_inserts.Goals.{then-s-i, else-s-i}

pub loop-i-preserved : goal.loop-i-preserved
loop-i-preserved c =
    elim c.if-s-i.branch [
      | then-s-i w ↦ (search length-put, omega arith, search inserts-more)
      | else-s-i w ↦ (cc, omega arith, search inserts-skip)
    ]

pub loop-i-init : goal.loop-i-init
loop-i-init c = (refl, omega arith, search inserts-start)

pub put_change-requires : goal.put_change-requires
put_change-requires c = (search insert-place, omega arith)
