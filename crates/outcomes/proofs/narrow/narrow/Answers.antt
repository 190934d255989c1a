-- `narrow::narrow` meets its contract.
use Rattle.std.proofs.Common.{◌∙◌}
use Rattle.outcomes.proofs.NarrowLaws.{narrow-either}
use Rattle.outcomes.proofs.narrow.narrow.Goals as goal

pub returns : goal.returns
returns c = c.unwrap_or.ensures ∙ narrow-either c.args.n c.try_from.result c.try_from.ensures
