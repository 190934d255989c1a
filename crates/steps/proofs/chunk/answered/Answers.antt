-- `chunk::answered` meets its contract.
use Rattle.std.proofs.Common.{sym, rules}
use lib.Seq.{length-take-le}
use Rattle.steps.proofs.ReplyLaws.{replied-none, replied-line}
use Rattle.steps.proofs.chunk.answered.Goals as goal

pub returns-in_default : goal.returns-in_default
returns-in_default c = search replied-none

pub slice_bounds-line-end : goal.slice_bounds-line-end
slice_bounds-line-end c = sym (length-take-le _ _ (search rules))

pub returns : goal.returns
returns c =
    let e = c.line.ensures in
    replied-line _ _ _ _ _ _ _ _ _ _ _ _ c.in-Some.is c.requires.0 c.requires.1 e.line_value e.len_bound
