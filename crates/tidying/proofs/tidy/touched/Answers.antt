-- `tidy::touched` meets its contract: what is asked of all the changes is asked of those from p on.
use Rattle.tidying.proofs.StaleLaws.{touched_none, touched-row, touched-set, touched-past}
use Rattle.tidying.proofs.tidy.touched.Goals as goal
use Rattle.tidying.proofs.tidy.touched.Goals.{then-get-via-then-get, then-get-via-else-get+then-has}

pub returns-then-get : goal.returns-then-get
returns-then-get c =
    elim c.then-get.branch [
      | then-get-via-then-get w ↦ search touched-row
      | then-get-via-else-get+then-has w ↦ search touched-set
    ]

pub loop-p-preserved : goal.loop-p-preserved
loop-p-preserved c = search touched-past

pub returns : goal.returns
returns c = search touched_none
