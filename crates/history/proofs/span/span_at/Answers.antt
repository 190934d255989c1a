-- `history::span_at` meets its contract. The invariant: the rows that the query of one of the values so far shows.
use native.Mathlib.Omega.{arith}
use Rattle.history.proofs.SpanLaws.{values-none, values-more, values-all, values-last}
use Rattle.history.proofs.span.span_at.Goals as goal

pub loop-v-init : goal.loop-v-init
loop-v-init c = (omega arith, search values-none)

pub loop-v-preserved : goal.loop-v-preserved
loop-v-preserved c = (omega arith, values-more _ _ _ _ _ _ _ _ _ _ c.loop-v.auto.v c.loop-v.invariant.1 c.add_value.ensures)

pub returns : goal.returns
returns c = search values-all

pub returns-2 : goal.returns-2
returns-2 c = values-last _ _ _ _ _ _ _ _ _ _ _ c.loop-v.auto.v c.loop-v-test.true (omega arith) c.loop-v.invariant.1 c.add_value.ensures
