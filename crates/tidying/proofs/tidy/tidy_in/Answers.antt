-- `tidy::tidy_in` meets its contract.
use Rattle.std.proofs.lemmas.Result.{err_from_is_err_and}
use Rattle.tidying.proofs.TidyLaws.{tidyable, tidy-refused, tidy-served}
use Rattle.tidying.proofs.tidy.tidy_in.Goals as goal

pub returns-in_err-valued : goal.returns-in_err-valued
returns-in_err-valued c =
    let p = err_from_is_err_and c.from_residual.result c.from_residual.ensures.1 in
    rw (p.1, p.2) (tidy-refused _ _ _ _ _ _ c.args.seat c.args.n _ _ (c.in_err-valued.ensures))

pub tidy_at-requires : goal.tidy_at-requires
tidy_at-requires c = tidyable _ _ _ _ _ _ c.args.seat c.args.n _ (c.in_ok-valued.ensures)

pub returns : goal.returns
returns c = tidy-served _ _ _ _ _ _ c.args.seat _ _ (c.in_ok-valued.ensures) _ c.tidy_at.result c.tidy_at.ensures
