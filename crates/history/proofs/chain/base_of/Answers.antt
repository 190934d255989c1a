-- `history::base_of` meets its contract.
use Rattle.history.proofs.VersionLaws.{base-is}
use borrow.Author.Rules.{rules}
use Rattle.history.proofs.chain.base_of.Goals as goal

pub returns : goal.returns
returns c = (search rules, search base-is)
