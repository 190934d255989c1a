-- `text::cells::all_short` meets its contract: bytes that take turns from a space on.
use Rattle.std.proofs.Common.{arith}
use Rattle.text.proofs.ShortLaws.{unsaid, short-turns}
use Rattle.text.proofs.cells.all_short.Goals as goal

pub returns-then-c-gt10 : goal.returns-then-c-gt10
returns-then-c-gt10 c = unsaid

pub returns-then-line-start : goal.returns-then-line-start
returns-then-line-start c = unsaid

pub returns-then-n-ne0 : goal.returns-then-n-ne0
returns-then-n-ne0 c = unsaid

pub returns-then-start-eq0 : goal.returns-then-start-eq0
returns-then-start-eq0 c = unsaid

pub returns-then-line-before-eq32 : goal.returns-then-line-before-eq32
returns-then-line-before-eq32 c = unsaid

pub returns : goal.returns
returns c = short-turns _ _ _ _ (omega arith) (omega arith) (omega arith) (omega arith) c.if-line-before-eq32.false _ c.all_turned.ensures
