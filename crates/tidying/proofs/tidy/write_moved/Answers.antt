-- `tidy::write_moved` meets its contract: the rows of the words before i are put.
use native.Mathlib.Omega.{arith}
use Rattle.tidying.proofs.MovedLaws.{moved_none, word-puttable, moved-more, moved_all}
use Rattle.tidying.proofs.tidy.write_moved.Goals as goal

pub loop-i-init : goal.loop-i-init
loop-i-init c = search moved_none

pub write_word-p-requires : goal.write_word-p-requires
write_word-p-requires c = (search word-puttable, omega arith)

pub loop-i-preserved : goal.loop-i-preserved
loop-i-preserved c = search moved-more

pub returns : goal.returns
returns c = search moved_all
