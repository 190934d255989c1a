-- `digits::put_field` meets its contract.
use Rattle.writing.proofs.WroteLaws.{wrote-field}
use Rattle.writing.proofs.digits.put_field.Goals as goal

pub returns : goal.returns
returns c = search wrote-field
