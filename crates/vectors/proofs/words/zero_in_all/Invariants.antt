-- `vectors::words::zero_in_all` meets its contract. The invariant: `all` is the OR of the words from `from` on of the first i vectors.
use mathlib.Core.Path.{◌≡◌}
use Rattle.bits.specs.OrWords.{or_below}
use Rattle.bits.specs.Vectors.{rest_of}
use Rattle.vectors.proofs.words.zero_in_all.Given as goal

abbrev pub invariant-loop-i : goal.invariant-loop-i
invariant-loop-i l = l.all ≡ or_below (rest_of l.words l.from) l.i
