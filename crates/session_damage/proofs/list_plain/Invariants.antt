-- `list_plain` meets its contract: a fold that carries the bits that were seen.
use Rattle.session_damage.proofs.PlainLaws.{Plain}
use Rattle.session_damage.proofs.list_plain.Given as goal

abbrev pub invariant-loop-i : goal.invariant-loop-i
invariant-loop-i l = Plain l.at l.to l.rows.0 l.values.0 l.i l.seen l.ok
