-- `create::write_columns` meets its contract.
use Rattle.creating.proofs.CreateLaws.{columns-written}
use Rattle.creating.proofs.create.write_columns.Goals as goal

pub returns : goal.returns
returns c = search columns-written
