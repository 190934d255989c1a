-- `enter::valued` meets its contract.
use Rattle.std.proofs.lemmas.Result.{err_from_is_err_and}
use Rattle.outcomes.proofs.EnterLaws.{valued-stays, opened-clock, no_value, valued-passes}
use Rattle.outcomes.proofs.enter.valued.Goals as goal

pub returns-in_err-opened : goal.returns-in_err-opened
returns-in_err-opened c =
    let p = err_from_is_err_and c.from_residual.result c.from_residual.ensures.1 in
    rw (p.1, p.2) (valued-stays _ _ _ _ _ _ c.args.seat c.args.n _ _ (c.in_err-opened.ensures))

pub clock_of-c-requires : goal.clock_of-c-requires
clock_of-c-requires c = opened-clock _ _ _ _ _ _ c.args.seat c.args.n c.args.v.0 (c.in_ok-opened.ensures)

pub returns-then-c-v : goal.returns-then-c-v
returns-then-c-v c = no_value _ _ _ _ _ _ c.args.seat c.args.n _ (c.in_ok-opened.ensures) _ c.clock_of-c.ensures c.if-c-v.true

pub returns : goal.returns
returns c = valued-passes _ _ _ _ _ _ c.args.seat c.args.n _ (c.in_ok-opened.ensures) _ c.clock_of-c.ensures c.if-c-v.false
