-- `vectors::words::rest_of` meets its contract. The invariant: `all` is the OR of the words from `from` to j of the vector.
use mathlib.Core.Path.{◌≡◌}
use Prim.Native.Nat.{◌+◌, ◌*◌}
use lib.ListN.{get_or}
use Rattle.bits.specs.OrWords.{or_from}
use Rattle.vectors.proofs.words.rest_of.Given as goal

abbrev pub invariant-loop-j : goal.invariant-loop-j
invariant-loop-j l = l.all ≡ or_from (λ k. get_or l.words (32 * l.i + k) 0) l.from l.j
