-- `vectors::columns::gather` meets its contract.
use Rattle.bits.proofs.ColumnLaws.{front-words, gather_none, gather-all}
use native.Mathlib.Omega.{arith}
use Rattle.vectors.proofs.columns.gather.Goals as goal

pub slice_bounds-clear-end-2 : goal.slice_bounds-clear-end-2
slice_bounds-clear-end-2 c = search front-words

pub gather_rows-requires : goal.gather_rows-requires
gather_rows-requires c =
    let s = c.args in
    let e = c.clear in
    gather_none s.col.now s.i e.new.dst s.own.now _ e.ensures (omega arith) (omega arith) (omega arith)

pub returns : goal.returns
returns c = gather-all c.args.col.now c.args.i c.gather_rows.new.own _ (omega arith) c.gather_rows.ensures
