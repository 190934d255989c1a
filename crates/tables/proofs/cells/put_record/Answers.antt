-- `put_record` meets its contract: four stores.
use Rattle.tables.proofs.Access.{record-at}
use native.Mathlib.Omega.{arith}
use lib.ListN.{length-set}
use Rattle.tables.proofs.cells.put_record.Goals as goal

pub bounds-log-k-2 : goal.bounds-log-k-2
bounds-log-k-2 c = simp length-set (omega arith)

pub bounds-log-k-3 : goal.bounds-log-k-3
bounds-log-k-3 c = simp length-set (omega arith)

pub bounds-log-k-4 : goal.bounds-log-k-4
bounds-log-k-4 c = simp length-set (omega arith)

pub returns : goal.returns
returns c = search record-at
