-- `vectors::words::tail_clear` meets its contract. Past the words there is nothing to test; else `tail-words` takes the one word and
-- those after it together.
use mathlib.Core.Path.{sym, ap, ◌∙◌}
use mathlib.Core.Bool.{Bool, ◌&&◌}
use Prim.Native.Nat.{◌/◌, ◌%◌, ◌^◌}
use native.Mathlib.Omega.{arith}
use lib.Dec.{eqb}
use lib.ListN.{get_or}
use Rattle.bits.proofs.TailLaws.{tail-past, tail-words}
use Rattle.vectors.proofs.words.tail_clear.Goals as goal

pub returns-then-ws-i : goal.returns-then-ws-i
returns-then-ws-i c = sym (tail-past c.args.ws.now c.args.n (omega arith))

pub returns : goal.returns
returns c =
    let s = c.args in
    ap (λ (t : Bool). eqb (get_or s.ws.now (s.n / 64) 0 / 2 ^ (s.n % 64)) 0 && t) c.zero_from.ensures
    ∙ tail-words s.ws.now s.n (λ i. (c.type_inv.ws i).fits) (omega arith)
