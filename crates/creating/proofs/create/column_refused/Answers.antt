-- `create::column_refused` meets its contract.
use Rattle.creating.proofs.CreateLaws.{bad-none, bad-many, bad-long, bad-bytes}
use Rattle.creating.proofs.create.column_refused.Goals as goal

pub returns-then-values-eq0 : goal.returns-then-values-eq0
returns-then-values-eq0 c = search bad-none

pub returns-then-values-gt-MAX_VALUES : goal.returns-then-values-gt-MAX_VALUES
returns-then-values-gt-MAX_VALUES c = search bad-many

pub returns-then-column : goal.returns-then-column
returns-then-column c = search bad-long

pub returns : goal.returns
returns c = search bad-bytes
