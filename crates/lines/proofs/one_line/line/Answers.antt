-- `one_line::line` meets its contract.
use Rattle.std.proofs.Common.{arith}
use Rattle.lines.proofs.LineLaws.{short-column, short-out, line-done}
use Rattle.lines.proofs.one_line.line.Goals as goal

pub returns : goal.returns
returns c =
    let p = c.put_line.ensures in record {
      line_value = line-done _ _ _ _ _ _ _ _ _ _ _ _ (omega arith) (omega arith) c.request-wish.ensures c.turn-answer.ensures p;
      len_bound = p.short;
    }

pub returns-then-column-lt4096 : goal.returns-then-column-lt4096
returns-then-column-lt4096 c = record { line_value = search short-column; len_bound = omega arith }

pub returns-then-out-lt10276 : goal.returns-then-out-lt10276
returns-then-out-lt10276 c = record { line_value = search short-out; len_bound = omega arith }
