-- `create::column_known` meets its contract: `ok` is the test of the bytes so far.
use Rattle.creating.proofs.CreateLaws.{known-none, known_more, known-all}
use Rattle.creating.proofs.create.column_known.Goals as goal

pub loop-b-init : goal.loop-b-init
loop-b-init c = search known-none

pub loop-b-preserved : goal.loop-b-preserved
loop-b-preserved c = search known_more

pub returns : goal.returns
returns c = search known-all
