-- `vectors::rows::list_rows` meets its contract: the rows of the words that were passed are listed.
use mathlib.Core.Path.{refl}
use native.Mathlib.Omega.{arith}
use borrow.Author.Rules.{rules}
use Rattle.bits.proofs.WordRows.{listed-none, listed-room, listed-step, listed-end}
use Rattle.vectors.proofs.rows.list_rows.Goals as goal

pub loop-i-init : goal.loop-i-init
loop-i-init c = search listed-none

pub list_word-at-requires : goal.list_word-at-requires
list_word-at-requires c = (search rules, search listed-room)

pub loop-i-preserved : goal.loop-i-preserved
loop-i-preserved c =
    let l = c.loop-i in
    listed-step c.args.ws.now c.args.list.now l.list l.at l.i l.invariant _ _ _ (omega arith) refl c.list_word-at.ensures

pub returns : goal.returns
returns c = search listed-end
