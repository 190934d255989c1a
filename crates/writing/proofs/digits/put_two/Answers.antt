-- `digits::put_two` meets its contract.
use native.Mathlib.Omega.{arith}
use Rattle.writing.proofs.WroteLaws.{pairs-length, wrote-two}
use Rattle.writing.proofs.digits.put_two.Goals as goal

pub bounds-text-i : goal.bounds-text-i
bounds-text-i c = omega (arith, pairs-length _ c.pair_text-text.ensures)

pub bounds-text-i-2 : goal.bounds-text-i-2
bounds-text-i-2 c = omega (arith, pairs-length _ c.pair_text-text.ensures)

pub returns : goal.returns
returns c = search wrote-two
