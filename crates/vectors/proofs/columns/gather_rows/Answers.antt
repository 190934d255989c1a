-- `vectors::columns::gather_rows` meets its contract. The invariant is what it needs, with k for `from`.
use Prim.Native.Nat.{◌+◌, ◌*◌}
use native.Mathlib.Omega.{arith}
use Rattle.bits.proofs.ColumnLaws.{gather-more}
use Rattle.vectors.proofs.columns.gather_rows.Goals as goal

pub loop-k-preserved : goal.loop-k-preserved
loop-k-preserved c =
    let s = c.args in
    let l = c.loop-k in
    let byte = c.type_inv.col (s.i * 64 + l.k) in
    gather-more s.col.now s.i l.own l.k s.to c.from.result l.invariant (omega arith) c.from.ensures
    (omega (arith, c.from.ensures, byte.fits))
