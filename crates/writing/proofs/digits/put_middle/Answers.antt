-- `digits::put_middle` meets its contract.
use native.Mathlib.Omega.{arith}
use Rattle.writing.proofs.WroteLaws.{number-large, number-far}
use Rattle.writing.proofs.digits.put_middle.Goals as goal

pub put_four-requires : goal.put_four-requires
put_four-requires c = (omega arith, omega (arith, number-far 1 _ _ _ _ _ c.put_small-next.ensures (omega arith)))

pub returns : goal.returns
returns c = search number-large
