-- `commit::commit_in` meets its contract: refused by the shared tests, or the rest of the call decides.
use Rattle.std.proofs.lemmas.Result.{err_from_is_err_and}
use Rattle.outcomes.proofs.OpenLaws.{opened-usable}
use Rattle.committing.proofs.CommitCores.{commit-refused, commit-on}
use Rattle.committing.proofs.commit.commit_in.Goals as goal

pub returns-in_err-opened : goal.returns-in_err-opened
returns-in_err-opened c =
    let p = err_from_is_err_and c.from_residual.result c.from_residual.ensures.1 in
    commit-refused _ _ _ _ _ _ c.args.seat c.args.n _ _ c.in_err-opened.ensures (cc (p.1, p.2))

pub commit_now-requires : goal.commit_now-requires
commit_now-requires c = opened-usable _ _ _ _ _ _ c.args.seat c.args.n c.in_ok-opened.ensures

pub returns : goal.returns
returns c = commit-on _ _ _ _ _ _ c.args.seat c.args.n _ _ _ _ c.in_ok-opened.ensures c.commit_now.ensures
