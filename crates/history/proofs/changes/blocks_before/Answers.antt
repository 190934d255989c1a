-- `history::blocks_before` meets its contract. The invariant: what names the row last up to `to` does so up to e.
use native.Mathlib.Omega.{arith}
use Rattle.history.proofs.LastLaws.{block-past}
use Rattle.history.proofs.changes.blocks_before.Goals as goal

pub loop-e-preserved : goal.loop-e-preserved
loop-e-preserved c = (omega arith, search block-past)
