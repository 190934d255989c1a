-- `text::feed::has_newline` meets its contract.
use Rattle.text.proofs.FeedLaws.{found_none, found-step, found_all}
use Rattle.text.proofs.feed.has_newline.Goals as goal

pub loop-b-init : goal.loop-b-init
loop-b-init c = found_none _ c.args.bytes.now

pub loop-b-preserved : goal.loop-b-preserved
loop-b-preserved c = search found-step

pub returns : goal.returns
returns c = search found_all
