-- `text::feed::newline_from` meets its contract: the end is the same from each place that was passed.
use Rattle.std.proofs.Common.{arith}
use Rattle.fields.proofs.SplitLaws.{ends-step, ends-here}
use Rattle.text.proofs.FeedLaws.{ends_same}
use Rattle.text.proofs.feed.newline_from.Goals as goal

pub returns-then-bytes-i-eq10 : goal.returns-then-bytes-i-eq10
returns-then-bytes-i-eq10 c = ends-here _ _ _ _ c.loop-i.invariant (omega arith) c.if-bytes-i-eq10.true

pub loop-i-preserved : goal.loop-i-preserved
loop-i-preserved c = ends-step _ _ _ _ c.loop-i.invariant (omega arith) c.if-bytes-i-eq10.false

pub returns : goal.returns
returns c = ends_same _ _ _ _ _ _ _ c.loop-i.invariant (omega arith) c.blocks_from-j.ensures c.end_from.ensures
