-- `put_all` meets its contract: at the loop's head, the system has taken the bytes before the rest.
use borrow.Author.Rules.{rules}
use Rattle.ends.proofs.EndsLaws.{putting-none, putting-more, putting-part, putting-all, putting-failed}
use Rattle.ends.proofs.put_all.Goals as goal
use Rattle.ends.proofs.put_all.Goals.{in-Ok, in-Err+else-not-again, else-loop-test, then-loop-test+else-is_empty+in-Ok-eq0}

pub loop-init : goal.loop-init
loop-init c = putting-none _ _

pub returns-then-is_empty : goal.returns-then-is_empty
returns-then-is_empty c = putting-all c.loop.invariant (search rules)

pub returns-then-not-again : goal.returns-then-not-again
returns-then-not-again c = putting-failed (putting-more c.loop.invariant 0 _ c.in-Err.ensures)

pub loop-preserved : goal.loop-preserved
loop-preserved c =
    let g = c.loop.invariant in elim c.match-put.branch [
      | in-Ok w ↦ rw w.rest-is (putting-part g _ _ w.in-Ok.ensures)
      | in-Err+else-not-again w ↦ rw w.rest-is (putting-more g 0 _ w.in-Err.ensures)
    ]

pub returns : goal.returns
returns c =
    let g = c.loop.invariant in elim c.loop-test.branch [
      | else-loop-test w ↦ rw w.watch-is (putting-failed g)
      | then-loop-test+else-is_empty+in-Ok-eq0 w ↦ rw w.watch-is (putting-failed (putting-more g _ _ w.in-Ok-eq0.ensures))
    ]
