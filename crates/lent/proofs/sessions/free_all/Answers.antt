-- One more place freed is a step of what is left; at the end nothing is left.
use Rattle.std.proofs.Common.{◌+◌, ◌-◌, List, sym, ◌∙◌, ap, arith, true}
use Rattle.tables.specs.declared.session.Session.{Session}
use Rattle.lent.specs.Places.{freed_from, freed_all}
use Rattle.lent.proofs.PlaceTheorems.{freed-next, left-none}
use Rattle.lent.proofs.sessions.free_all.Goals as goal

pub loop-n-preserved : goal.loop-n-preserved
loop-n-preserved c =
    ap (λ (us : List Session). freed_from us (c.loop-n.n + 1) (16 - (c.loop-n.n + 1))) c.free.ensures
    ∙ freed-next c.loop-n.t c.loop-n.n true (omega arith) ∙ c.loop-n.invariant

pub returns : goal.returns
unfolding freed_all
returns c = sym (left-none c.loop-n.t c.loop-n.n true (omega arith)) ∙ c.loop-n.invariant
