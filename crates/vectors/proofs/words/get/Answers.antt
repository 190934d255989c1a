-- `vectors::words::get` meets its contract. Past the words no row is set.
use mathlib.Core.Path.{sym, ◌∙◌}
use native.Mathlib.Omega.{arith}
use Prim.Native.Nat.{◌/◌}
use borrow.Author.Tests.{le-ltb}
use lib.ListN.{length}
use Rattle.bits.proofs.WordLaws.{bit_at-above}
use Rattle.vectors.proofs.words.get.Goals as goal

pub returns-else-i-ws : goal.returns-else-i-ws
returns-else-i-ws c =
    let s = c.args in
    le-ltb (s.row / 64) (length s.ws.now) c.if-i-ws.false ∙ sym (bit_at-above s.ws.now s.row (omega arith))
