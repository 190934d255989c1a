-- `history::span_at` meets its contract. The invariant: the rows that the query of one of the values so far shows.
use mathlib.Core.Path.{◌≡◌}
use Prim.Native.Nat.{◌+◌, ◌-◌, ◌≤◌}
use Rattle.bits.specs.Any.{any_from}
use Rattle.bits.specs.Vec.{vec}
use Rattle.history.specs.Query.{queried_at}
use Rattle.history.proofs.span.span_at.Given as goal

abbrev pub invariant-loop-v : goal.invariant-loop-v
invariant-loop-v l = (l.v - (l.v-end + 1) ≤ l.initial.v - (l.v-end + 1))
    × (l.all ≡ vec (λ r. any_from (λ u. queried_at l.t.slots.now l.t.words.now l.t.heads.now l.t.log.now
    l.t.changes.now l.s.0 u r) l.initial.v l.v) 32)
