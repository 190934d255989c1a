-- `history::flips` meets its contract. The invariant: the mask is what the changes so far flip.
use mathlib.Core.Path.{◌≡◌}
use Prim.Native.Nat.{◌-◌, ◌≤◌}
use Rattle.bits.specs.Vec.{vec}
use Rattle.history.specs.Flips.{flipped_in}
use Rattle.history.proofs.mask.flips.Given as goal

abbrev pub invariant-loop-p : goal.invariant-loop-p
invariant-loop-p l = (l.p - l.to ≤ l.initial.p - l.to) × (l.mask ≡ vec (flipped_in l.changes l.initial.p l.p l.v.0) 32)
