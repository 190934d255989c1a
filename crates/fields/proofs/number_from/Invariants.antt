-- `fields::number_from` meets its contract: the whole answer is that from each place on, with the digits so far.
use mathlib.Core.Path.{◌≡◌}
use Prim.Native.Nat.{◌≤◌}
use Rattle.fields.specs.Number.{number}
use Rattle.fields.specs.Places.{start_by}
use Rattle.fields.proofs.NumberLaws.{number_on}
use Rattle.fields.proofs.NumberLaws.{most}
use Rattle.fields.proofs.number_from.Given as goal

abbrev pub invariant-loop-i : goal.invariant-loop-i
invariant-loop-i l = (l.left ≤ 3) × (l.value ≤ most l.left) × (start_by number l.line l.from ≡ number_on l.left l.value l.line l.i)
