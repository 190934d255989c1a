-- `list_zero` meets its contract: a fold that gathers the rows in one number, and one for the targets.
use mathlib.Core.Path.{◌≡◌}
use lib.ListN.{get_or}
use Rattle.bits.specs.OrWords.{or_below}
use Rattle.session_damage.proofs.list_zero.Given as goal

abbrev pub invariant-loop-row : goal.invariant-loop-row
invariant-loop-row l = l.rows ≡ or_below (λ j. get_or l.at j 0) l.row-index

abbrev pub invariant-loop-target : goal.invariant-loop-target
invariant-loop-target l = l.targets ≡ or_below (λ j. get_or l.to j 0) l.target-index
