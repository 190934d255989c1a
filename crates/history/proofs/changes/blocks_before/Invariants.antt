-- `history::blocks_before` meets its contract. The invariant: what names the row last up to `to` does so up to e.
use mathlib.Core.Path.{◌≡◌}
use Prim.Native.Nat.{◌≤◌}
use Rattle.history.specs.Last.{last_place}
use Rattle.history.proofs.changes.blocks_before.Given as goal

abbrev pub invariant-loop-e : goal.invariant-loop-e
invariant-loop-e l = (l.e ≤ l.to) × (last_place l.changes l.row l.to ≡ last_place l.changes l.row l.e)

abbrev pub decreases-loop-e : goal.decreases-loop-e
decreases-loop-e l = l.e
