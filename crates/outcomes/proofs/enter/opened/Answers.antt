-- `enter::opened` meets its contract.
use Rattle.std.proofs.Common.{ap, not}
use Rattle.std.proofs.lemmas.Result.{err_from_is_err_and}
use Rattle.outcomes.proofs.EnterLaws.{opened-stays, not-open, placed-clock, out-of-reach, opened-passes}
use Rattle.outcomes.proofs.enter.opened.Goals as goal

pub returns-in_err-placed : goal.returns-in_err-placed
returns-in_err-placed c =
    let p = err_from_is_err_and c.from_residual.result c.from_residual.ensures.1 in
    rw (p.1, p.2) (opened-stays _ _ _ _ _ _ c.args.seat c.args.n _ (c.in_err-placed.ensures))

pub returns-then-s-ne1 : goal.returns-then-s-ne1
returns-then-s-ne1 c = not-open _ _ _ _ _ _ c.args.seat c.args.n (c.in_ok-placed.ensures) c.if-s-ne1.true

pub clock_of-c-requires : goal.clock_of-c-requires
clock_of-c-requires c = placed-clock _ _ _ _ _ _ c.args.seat c.args.n (c.in_ok-placed.ensures)

pub returns-then-not-in_reach : goal.returns-then-not-in_reach
returns-then-not-in_reach c =
    let e = c.in_ok-placed.ensures in
    out-of-reach _ _ _ _ _ _ c.args.seat c.args.n e c.if-s-ne1.false _ c.clock_of-c.ensures _ c.in_reach.ensures (ap not c.if-not-in_reach.true)

pub returns : goal.returns
returns c =
    let e = c.in_ok-placed.ensures in
    opened-passes _ _ _ _ _ _ c.args.seat c.args.n e c.if-s-ne1.false _ c.clock_of-c.ensures _ c.in_reach.ensures (ap not c.if-not-in_reach.false)
