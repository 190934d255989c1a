-- `text::cells::near_cell` meets its contract.
use Rattle.std.proofs.Common.{arith}
use Rattle.text.proofs.CellLaws.{near-one, near-two}
use Rattle.text.proofs.cells.near_cell.Goals as goal

pub returns-then-is_ascii_digit : goal.returns-then-is_ascii_digit
returns-then-is_ascii_digit c =
    near-two _ _ c.requires _ _ _ c.from.ensures c.is_ascii_digit.ensures.value c.if-is_ascii_digit.true c.if-line-at-ne32.false c.two_value-x.ensures (omega arith)

pub returns-then-is_ascii_digit-2 : goal.returns-then-is_ascii_digit-2
returns-then-is_ascii_digit-2 c =
    near-one _ _ c.requires _ _ c.is_ascii_digit-2.ensures.value c.if-is_ascii_digit-2.true c.if-b-ne32.false c.from-then-is_ascii_digit-2.ensures
