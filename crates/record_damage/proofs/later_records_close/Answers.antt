-- `later_records_close` meets its contract: a fold that gathers what the records are off by.
use mathlib.Core.Path.{refl}
use native.Mathlib.Omega.{arith}
use Rattle.record_damage.proofs.CloseLaws.{within_none, wraps_more, close-fits}
use Rattle.record_damage.proofs.later_records_close.Goals as goal

pub loop-k-init : goal.loop-k-init
loop-k-init c = (search within_none, search within_none, search within_none, search within_none)

pub loop-k-preserved : goal.loop-k-preserved
loop-k-preserved c =
    let l : _ = c.loop-k in (
      wraps_more _ l.k _ _ _ l.invariant.0 (omega arith) (omega arith) refl,
      wraps_more _ l.k _ _ 1 l.invariant.1 (omega arith) (omega arith) refl,
      wraps_more _ l.k _ _ _ l.invariant.2 (omega arith) (omega arith) refl,
      wraps_more _ l.k _ _ _ l.invariant.3 (omega arith) (omega arith) refl,
    )

pub returns : goal.returns
returns c = search close-fits
