-- `tidy::tidy_at` meets its contract.
use Rattle.std.proofs.lemmas.Result.{err_from_is_err_and}
use Rattle.tidying.proofs.TidyLaws.{tidy-ready, tidy-refuses, tidy-answers}
use Rattle.tidying.proofs.tidy.tidy_at.Goals as goal

pub returns-in_err-ready : goal.returns-in_err-ready
returns-in_err-ready c =
    let p = err_from_is_err_and c.from_residual.result c.from_residual.ensures.1 in
    rw (p.1, p.2) (tidy-refuses _ _ _ _ _ _ _ _ _ _ c.end_at.ensures c.flips-moved.ensures _ (c.in_err-ready.ensures))

pub tidy_work-requires : goal.tidy_work-requires
tidy_work-requires c = tidy-ready _ _ _ _ _ _ _ _ _ _ c.end_at.ensures c.flips-moved.ensures (c.in_ok-ready.ensures) c.requires

pub returns : goal.returns
returns c =
    tidy-answers _ _ _ _ _ _ _ _ _ _ c.end_at.ensures c.flips-moved.ensures (c.in_ok-ready.ensures) _ c.tidy_work.result c.tidy_work.ensures
