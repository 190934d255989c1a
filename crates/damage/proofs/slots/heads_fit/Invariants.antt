-- `heads_fit` meets its contract: a scan; the whole is the rest from here on.
use mathlib.Core.Path.{◌≡◌}
use Rattle.tables.specs.Damage.{all_in, head_fits, heads_fit}
use Rattle.damage.proofs.slots.heads_fit.Given as goal

abbrev pub invariant-loop-v : goal.invariant-loop-v
invariant-loop-v l = heads_fit l.clock l.slots l.heads ≡ all_in (head_fits l.used l.slots l.heads) l.v l.v-end
