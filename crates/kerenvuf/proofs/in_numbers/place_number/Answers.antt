-- `in_numbers::place_number` meets its contract.
use Rattle.kerenvuf.proofs.AnswerLaws.{place-past, place-slot}
use Rattle.kerenvuf.proofs.in_numbers.place_number.Goals as goal

pub returns-then-i-ge96 : goal.returns-then-i-ge96
returns-then-i-ge96 c = search place-past

pub returns-else-i-ge96 : goal.returns-else-i-ge96
returns-else-i-ge96 c = search place-slot
