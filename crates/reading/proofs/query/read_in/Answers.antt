-- `query::read_in` meets its contract.
use Rattle.reading.proofs.ReadLaws.{read-readies}
use Rattle.reading.proofs.query.read_in.Goals as goal

pub read_at-requires : goal.read_at-requires
read_at-requires c = search (read-readies, c.in_ok-opened.ensures)
