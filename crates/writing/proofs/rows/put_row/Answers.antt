-- `rows::put_row` meets its contract.
use Rattle.writing.proofs.WroteLaws.{wrote-field}
use Rattle.writing.proofs.rows.put_row.Goals as goal

pub returns : goal.returns
returns c = search wrote-field
