-- `commit::commit_now` meets its contract: refused, or what is written is what the rules store.
use Rattle.std.proofs.lemmas.Result.{err_from_is_err_and}
use Rattle.committing.proofs.CommitTests.{commit-asked}
use Rattle.committing.proofs.CommitCores.{now-ready, now-refused, now-done}
use Rattle.committing.proofs.commit.commit_now.Goals as goal

pub ready-requires : goal.ready-requires
ready-requires c = search commit-asked

pub returns-in_err-ready : goal.returns-in_err-ready
returns-in_err-ready c =
    let p = err_from_is_err_and c.from_residual.result c.from_residual.ensures.1 in
    now-refused _ _ _ _ _ _ c.args.s c.args.n _ _ c.in_err-ready.ensures (cc (p.1, p.2))

pub commit_work-requires : goal.commit_work-requires
commit_work-requires c = now-ready _ _ _ _ _ _ c.args.s c.args.n c.in_ok-ready.ensures c.requires

pub returns : goal.returns
returns c = now-done _ _ _ _ _ _ c.args.s c.args.n c.in_ok-ready.ensures _ _ _ _ c.commit_work.ensures
