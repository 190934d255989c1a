-- `gathered` meets its contract: a fold over the halves.
use mathlib.Core.Path.{◌≡◌}
use Rattle.bits.specs.OrWords.{or_below}
use Rattle.change_damage.proofs.GatherLaws.{pair_at}
use Rattle.change_damage.proofs.gathered.Given as goal

abbrev pub invariant-loop-p : goal.invariant-loop-p
invariant-loop-p l = l.all ≡ or_below (pair_at l.cells l.from l.other) l.p
