-- `text::feed::gather` meets its contract.
use Rattle.text.proofs.FeedLaws.{gathered}
use Rattle.text.proofs.feed.gather.Goals as goal

pub returns : goal.returns
returns c = gathered _ _ _ _ _ c.requires c.min-end.ensures c.copy_from_slice.ensures.after
