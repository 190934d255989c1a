-- `tidy::write_word` meets its contract: what is put of the rows of the word, and what is still to come, is the whole.
use Rattle.bits.proofs.WordRows.{word-less}
use Rattle.tidying.proofs.MovedLaws.{next-puttable, word_more, word-put}
use Rattle.tidying.proofs.tidy.write_word.Goals as goal

pub put_less-p-requires : goal.put_less-p-requires
put_less-p-requires c = search next-puttable

pub loop-x-smaller : goal.loop-x-smaller
loop-x-smaller c = search word-less

pub loop-x-preserved : goal.loop-x-preserved
loop-x-preserved c = search word_more

pub returns : goal.returns
returns c = search word-put
