-- `fields::number_at` meets its contract.
use Rattle.fields.proofs.NumberLaws.{none-there, there}
use Rattle.fields.proofs.number_at.Goals as goal

pub returns-then-line-at : goal.returns-then-line-at
returns-then-line-at c = search none-there

pub returns : goal.returns
returns c = search there
