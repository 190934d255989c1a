-- `vectors::words::clear` meets its contract: words of 0 have no row.
use borrow.Author.Rules.{rules}
use Rattle.bits.proofs.VecOps.{zeros-vec}
use Rattle.vectors.proofs.words.clear.Goals as goal

pub returns : goal.returns
returns c = search (rules, zeros-vec)
