-- `text::cells::short_value` meets its contract.
use Rattle.text.proofs.ShortLaws.{value-dash, value-digit, value-sub}
use Rattle.text.proofs.cells.short_value.Goals as goal

pub overflow_sub-result : goal.overflow_sub-result
overflow_sub-result c = search value-sub

pub returns-then-b-eq45 : goal.returns-then-b-eq45
returns-then-b-eq45 c = search value-dash

pub returns-else-b-eq45 : goal.returns-else-b-eq45
returns-else-b-eq45 c = search value-digit
