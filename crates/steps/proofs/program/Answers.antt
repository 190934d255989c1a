-- `program` meets its contract: the input was gone through, and then the end's last line was done.
use Rattle.steps.proofs.ProgramLaws.{program-is}
use Rattle.steps.proofs.program.Goals as goal

pub returns : goal.returns
returns c =
    let e = c.started-stand.ensures in
    program-is _ _ _ _ _ _ _ _ _ _ _ _ _ c.requires.blank c.requires.in_bounds.2 c.requires.free (e.0, e.1, e.2, e.3) c.run-gone.ensures
    c.finish-done.ensures.ends c.finish-done.ensures.heard_value
