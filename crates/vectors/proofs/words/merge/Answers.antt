-- `vectors::words::merge` meets its contract. The invariant: the words before i are those of `merged_words`.
use native.Mathlib.Omega.{arith}
use Rattle.bits.specs.Words.{merged_words}
use Rattle.bits.proofs.TabLaws.{filled_none, filled-all}
use Rattle.bits.proofs.WordLaws.{merged-more}
use Rattle.vectors.proofs.words.merge.Goals as goal

pub loop-i-init : goal.loop-i-init
loop-i-init c = search filled_none

pub loop-i-preserved : goal.loop-i-preserved
loop-i-preserved c = merged-more _ _ c.loop-i.invariant (omega arith)

pub returns : goal.returns
unfolding merged_words
returns c = filled-all _ c.loop-i.invariant (omega arith)
