-- `query::query_in` meets its contract.
use Rattle.reading.proofs.QueryLaws.{query-ready, query-own, query-copied}
use Rattle.reading.proofs.query.query_in.Goals as goal

pub query_at-found-requires : goal.query_at-found-requires
query_at-found-requires c = search (query-ready, c.in_ok-valued.ensures)

pub returns-then-found-eq0 : goal.returns-then-found-eq0
returns-then-found-eq0 c = search (query-own, c.in_ok-valued.ensures)

pub returns : goal.returns
returns c = rw c.from.ensures (search (query-copied, c.in_ok-valued.ensures))
