-- `vectors::words::rest_of` meets its contract. The invariant: `all` is the OR of the words from `from` to j of the vector.
use mathlib.Core.Path.{◌≡◌, ap, ◌∙◌}
use Prim.Native.Nat.{◌+◌, ◌*◌}
use native.Mathlib.Omega.{arith}
use lib.ListN.{get_or}
use Rattle.bits.specs.OrWords.{or_from}
use Rattle.bits.specs.Vectors.{rest_of}
use Rattle.bits.proofs.OrLaws.{from-none, from_more}
use Rattle.vectors.proofs.words.rest_of.Goals as goal

pub loop-j-init : goal.loop-j-init
loop-j-init c = search from-none

pub loop-j-preserved : goal.loop-j-preserved
loop-j-preserved c =
    let s = c.args in
    let l = c.loop-j in
    from_more (λ k. get_or s.words.now (32 * s.i + k) 0) s.from l.j l.all (omega arith) l.invariant

pub returns : goal.returns
unfolding rest_of
returns c =
    let s = c.args in
    let e : c.loop-j.j ≡ 32 = omega arith in
    c.loop-j.invariant ∙ ap (or_from (λ k. get_or s.words.now (32 * s.i + k) 0) s.from) e
