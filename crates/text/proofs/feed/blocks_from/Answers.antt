-- `text::feed::blocks_from` meets its contract.
use Rattle.std.proofs.Common.{refl, arith}
use Rattle.text.proofs.FeedLaws.{block-step}
use Rattle.text.proofs.feed.blocks_from.Goals as goal

pub loop-i-init : goal.loop-i-init
loop-i-init c = (omega arith, refl)

pub loop-i-preserved : goal.loop-i-preserved
loop-i-preserved c = (omega arith, search block-step)
