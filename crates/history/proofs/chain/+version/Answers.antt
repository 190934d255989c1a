-- Each slot on the way is the one that is sought, or the search goes on at its link.
use Rattle.history.proofs.VersionLaws.{version-here, version-first, version-stuck, version-past}
use Rattle.history.proofs.chain.+version.Goals as goal

pub returns-then-b-s : goal.returns-then-b-s
returns-then-b-s t c = search version-here

pub returns-in_default : goal.returns-in_default
returns-in_default t c = search version-first

pub returns-then-i-before : goal.returns-then-i-before
returns-then-i-before t c = search version-stuck

pub returns : goal.returns
returns t c = search version-past
