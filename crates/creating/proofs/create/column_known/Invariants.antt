-- `create::column_known` meets its contract: `ok` is the test of the bytes so far.
use Rattle.std.proofs.Common.{◌≡◌}
use Rattle.creating.proofs.CreateLaws.{known_to}
use Rattle.creating.proofs.create.column_known.Given as goal

abbrev pub invariant-loop-b : goal.invariant-loop-b
invariant-loop-b l = l.ok ≡ known_to l.fn.values.0 l.column l.b-index
