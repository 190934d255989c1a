-- `later_records_close` meets its contract: a fold that gathers what the records are off by.
use Rattle.record_damage.specs.Parts.{Within}
use Rattle.record_damage.proofs.CloseLaws.{stamp_off, kind_off, rows_off, end_off}
use Rattle.record_damage.proofs.later_records_close.Given as goal

abbrev pub invariant-loop-k : goal.invariant-loop-k
invariant-loop-k l =
    Within (stamp_off l.log) 1 l.k l.stamps × Within (kind_off l.log) 1 l.k l.kinds × Within (rows_off l.log) 1 l.k l.rows × Within
    (end_off l.log) 1 l.k l.ends
