-- `vectors::rows::list_word` meets its contract: what is stored of the rows, and what is still to come, is the whole.
use Rattle.bits.proofs.WordRows.{listing-room, listing-less, listing_step, listing-end}
use Rattle.vectors.proofs.rows.list_word.Goals as goal

pub bounds-list-at : goal.bounds-list-at
bounds-list-at c = search listing-room

pub loop-x-smaller : goal.loop-x-smaller
loop-x-smaller c = search listing-less

pub loop-x-preserved : goal.loop-x-preserved
loop-x-preserved c = search listing_step

pub returns : goal.returns
returns c = listing-end _ _ _ _ _ _ _ c.loop-x.invariant c.loop-x-test.false
