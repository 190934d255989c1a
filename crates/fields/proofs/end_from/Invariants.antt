-- `fields::end_from` meets its contract: the end is the same from each place that was passed.
use mathlib.Core.Path.{◌≡◌}
use Rattle.fields.specs.Places.{end_at}
use Rattle.fields.proofs.end_from.Given as goal

abbrev pub invariant-loop-i : goal.invariant-loop-i
invariant-loop-i l = end_at l.s l.line l.from ≡ end_at l.s l.line l.i
