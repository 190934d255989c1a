-- `writes::commit_work` meets its contract: the changes, then the record.
use Rattle.committing.proofs.CommitWork.{work-clock, work-log, work-stamp, work-rows-few, work-done}
use Rattle.committing.proofs.writes.commit_work.Goals as goal

pub returns : goal.returns
returns c =
    let p = c in
    let q = p in
    let r = q in
    let s = r in
    let t = s in
    let u = t in
    search (
      work-done,
      u.requires,
      t.clock_of-c.ensures,
      s.inserts.ensures,
      r.changes_used.ensures,
      q.write_changes.ensures,
      p.write_commit.ensures,
    )

pub clock_of-c-requires : goal.clock_of-c-requires
clock_of-c-requires c = search work-clock

pub overflow_add-after : goal.overflow_add-after
overflow_add-after c = search work-rows-few

pub changes_used-requires : goal.changes_used-requires
changes_used-requires c = search work-clock

pub write_commit-requires : goal.write_commit-requires
write_commit-requires c = (search work-clock, search work-log, search work-stamp)
