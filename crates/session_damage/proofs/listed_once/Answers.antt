-- `listed_once` meets its contract: a scan that keeps the rows it has seen; the whole is the rest from here on.
use native.Mathlib.Omega.{arith}
use Rattle.std.proofs.Common.{length-take}
use Rattle.session_damage.proofs.OnceLaws.{row-twice, row-rest, row_seen, insert-rest, insert-seen, seen_none, row_low, entry-at}
use Rattle.tables.proofs.Fold.{below_in, scan-end}
use Rattle.session_damage.proofs.listed_once.Goals as goal
use Rattle.session_damage.proofs.listed_once.Goals.{then-at+else-get_in, else-at}

pub loop-at-init : goal.loop-at-init
loop-at-init c = (search below_in, search seen_none)

pub get_in-requires : goal.get_in-requires
get_in-requires c =
    row_low _ _ _ _ _ c.from-row.ensures c.if-at.true (entry-at _ _ _ (omega arith) c.told-at c.loop-at-test.true) c.requires.1

pub returns-then-get_in : goal.returns-then-get_in
returns-then-get_in c = search (row-twice, entry-at)

pub put_in-requires : goal.put_in-requires
put_in-requires c =
    row_low _ _ _ _ _ c.from-row.ensures c.if-at.true (entry-at _ _ _ (omega arith) c.told-at c.loop-at-test.true) c.requires.1

pub loop-at-preserved : goal.loop-at-preserved
loop-at-preserved c =
    elim c.if-at.branch [
      | then-at+else-get_in w ↦ (search (row-rest, entry-at), search (row_seen, entry-at))
      | else-at w ↦ (search (insert-rest, entry-at), search (insert-seen, entry-at))
    ]

pub returns : goal.returns
returns c = scan-end _ _ _ _ c.loop-at.invariant.0 (omega (arith, length-take c.args.n c.args.at.now))
