-- `conflict::clash` meets its contract: the whole is what the records, and the entries of this one, from here on say.
use mathlib.Core.Path.{refl}
use borrow.Author.Rules.{rules}
use Rattle.conflict.proofs.ClashLaws.{some-on, entries-start, records-start}
use Rattle.conflict.proofs.ClashLaws.{records-ended, records-on}
use Rattle.conflict.proofs.clash.Goals as goal

pub records-init : goal.records-init
records-init c = (refl, search records-start)

pub loop-i-init : goal.loop-i-init
loop-i-init c = (search rules, search entries-start)

pub loop-i-preserved : goal.loop-i-preserved
loop-i-preserved c = (search rules, search some-on)

pub records-preserved : goal.records-preserved
records-preserved c = (search rules, search records-on)

pub returns-after-records : goal.returns-after-records
returns-after-records c = search records-ended
