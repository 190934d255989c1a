-- Below 32, nothing is left of the set above c; from 32 on every set is below.
use Rattle.std.proofs.Common.{sym, arith}
use Rattle.bits.proofs.SetLaws.{below-shr, below_wider}
use Rattle.bits.proofs.sets.all_below.Goals as goal

pub returns-then-c-lt32 : goal.returns-then-c-lt32
returns-then-c-lt32 c = below-shr c.args.set c.args.c

pub returns-else-c-lt32 : goal.returns-else-c-lt32
returns-else-c-lt32 c = sym (below_wider c.args.set 32 c.args.c (omega arith) (omega arith))
