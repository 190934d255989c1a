-- `chunk::answer` meets its contract: at the loop's head, the lines answered so far are the first of those that were left.
use Rattle.std.proofs.Common.{rules, arith}
use Rattle.steps.proofs.ChunkLaws.{Going, comes-none, comes-more, going-left, going-room, going-part, going_end}
use Rattle.steps.proofs.chunk.answer.Goals as goal

pub lines-init : goal.lines-init
lines-init c = comes-none _ _ (record { len-fits = search rules; filled-fits = search rules; within = search rules })

pub goes_on-requires : goal.goes_on-requires
goes_on-requires c = c.lines.invariant.fits.filled-fits

pub feed_line-fed-requires : goal.feed_line-fed-requires
feed_line-fed-requires c =
    let g : Going _ _ _ _ = record { came = c.lines.invariant; test = c.goes_on.ensures } in
    (c.lines.invariant.fits.len-fits, going-left g c.lines-test.true)

pub slice_bounds-answered-count : goal.slice_bounds-answered-count
slice_bounds-answered-count c = c.lines.invariant.fits.filled-fits

pub slice_bounds-answered-start : goal.slice_bounds-answered-start
slice_bounds-answered-start c = c.lines.invariant.fits.filled-fits

pub answered-filled-requires : goal.answered-filled-requires
answered-filled-requires c =
    let g : Going _ _ _ _ = record { came = c.lines.invariant; test = c.goes_on.ensures } in
    let f = c.feed_line-fed.ensures in
    (omega arith, going-part g c.lines-test.true, rw f.room f.line-fits)

pub overflow_add-filled : goal.overflow_add-filled
overflow_add-filled c =
    let g : Going _ _ _ _ = record { came = c.lines.invariant; test = c.goes_on.ensures } in
    omega (arith, going-room g c.lines-test.true, c.answered-filled.ensures.short)

pub lines-smaller : goal.lines-smaller
lines-smaller c = let f = c.feed_line-fed.ensures in omega (arith, f.goes_on, f.within)

pub lines-preserved : goal.lines-preserved
lines-preserved c =
    let g : Going _ _ _ _ = record { came = c.lines.invariant; test = c.goes_on.ensures } in
    comes-more g.came (going-room g c.lines-test.true) c.feed_line-fed.ensures c.answered-filled.ensures

pub returns : goal.returns
returns c =
    let g : Going _ _ _ _ = record { came = c.lines.invariant; test = c.goes_on.ensures } in
    going_end g c.lines-test.false
