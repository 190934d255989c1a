-- `span::span_in` meets its contract.
use Rattle.reading.proofs.SpanLaws.{span-readies, span-short, span-lists}
use Rattle.reading.proofs.span.span_in.Goals as goal

pub span_at-all-requires : goal.span_at-all-requires
span_at-all-requires c = search (span-readies, c.in_ok-valued.ensures)

pub returns-then-list-k : goal.returns-then-list-k
returns-then-list-k c = search (span-short, c.in_ok-valued.ensures)

pub returns : goal.returns
returns c = search (span-lists, c.in_ok-valued.ensures)
