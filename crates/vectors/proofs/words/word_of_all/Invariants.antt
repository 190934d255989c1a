-- `vectors::words::word_of_all` meets its contract. The invariant: `all` is the OR of word j of the first i vectors.
use mathlib.Core.Path.{◌≡◌}
use Prim.Native.Nat.{◌+◌, ◌*◌}
use lib.ListN.{get_or}
use Rattle.bits.specs.OrWords.{or_below}
use Rattle.vectors.proofs.words.word_of_all.Given as goal

abbrev pub invariant-loop-i : goal.invariant-loop-i
invariant-loop-i l = l.all ≡ or_below (λ k. get_or l.words (32 * k + l.j) 0) l.i
