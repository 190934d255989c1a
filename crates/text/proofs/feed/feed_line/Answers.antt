-- `text::feed::feed_line` meets its contract.
use Rattle.std.proofs.Common.{arith}
use Rattle.text.proofs.FeedLaws.{feed-between, feeds-whole, feeds-part}
use Rattle.text.proofs.feed.feed_line.Goals as goal

pub slice_bounds-gather-count : goal.slice_bounds-gather-count
slice_bounds-gather-count c = omega (arith, feed-between _ _ _ c.newline_from-end.ensures c.requires.1)

pub slice_bounds-gather-start : goal.slice_bounds-gather-start
slice_bounds-gather-start c = omega (arith, feed-between _ _ _ c.newline_from-end.ensures c.requires.1)

pub slice_bounds-gather-end : goal.slice_bounds-gather-end
slice_bounds-gather-end c = omega (arith, feed-between _ _ _ c.newline_from-end.ensures c.requires.1)

pub returns-then-end-bytes : goal.returns-then-end-bytes
returns-then-end-bytes c = search feeds-whole

pub returns : goal.returns
returns c = search feeds-part
