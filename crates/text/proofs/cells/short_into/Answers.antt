-- `text::cells::short_into` meets its contract: what is stored and counted, and what is still to come, is the whole.
use Rattle.std.proofs.Common.{arith}
use Rattle.text.proofs.ShortLaws.{short_none, short-known, short-step, short-end}
use Rattle.text.proofs.cells.short_into.Goals as goal

pub loop-k-init : goal.loop-k-init
loop-k-init c = (omega arith, omega arith, short_none _ _ _)

pub short_value-requires : goal.short_value-requires
short_value-requires c = search short-known

pub loop-k-preserved : goal.loop-k-preserved
loop-k-preserved c = (omega arith, omega arith, search short-step)

pub returns : goal.returns
returns c = search short-end
