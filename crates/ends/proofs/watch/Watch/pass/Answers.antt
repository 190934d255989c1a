-- `Watch::pass` meets its contract.
use Rattle.ends.proofs.WatchLaws.{pass-seen, pass-here, pass-beyond}
use Rattle.ends.proofs.watch.Watch.pass.Goals as goal

pub returns-in-Some : goal.returns-in-Some
returns-in-Some c = let h = c.in-Some.ensures.lookup in pass-here _ _ _ c.in-Until.is _ h.3.0 (h.3.1 0)

pub returns-in-None : goal.returns-in-None
returns-in-None c = pass-beyond _ _ _ c.in-Until.is c.in-None.ensures.lookup.3

pub returns-in_default : goal.returns-in_default
returns-in_default c = pass-seen _ _ _ c.in_default.is
