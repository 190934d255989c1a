-- `digits::pair_text` meets its contract.
use mathlib.Core.Path.{refl}
use Rattle.bits.specs.Tab.{tab}
use Rattle.writing.specs.Wrote.{pair_byte, pairs}
use Rattle.writing.proofs.digits.pair_text.Goals as goal

pub returns : goal.returns
unfolding pair_byte pairs tab
returns c = refl
