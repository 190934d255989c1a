-- `listed_once` meets its contract: a scan that keeps the rows it has seen; the whole is the rest from here on.
use mathlib.Core.Path.{◌≡◌}
use Rattle.bits.specs.All.{all_below}
use Rattle.tables.specs.Damage.{all_in}
use Rattle.session_damage.specs.Parts.{once_in}
use Rattle.session_damage.proofs.OnceLaws.{Seen}
use Rattle.session_damage.proofs.listed_once.Given as goal

abbrev pub invariant-loop-at : goal.invariant-loop-at
invariant-loop-at l = (all_below (once_in l.fn.at) l.n ≡ all_in (once_in l.fn.at) l.at-index l.n) × Seen l.fn.at l.at-index l.seen
