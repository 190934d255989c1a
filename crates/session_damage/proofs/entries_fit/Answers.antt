-- `entries_fit` meets its contract: the limits, each entry, and that each row is listed once.
use native.Mathlib.Omega.{arith}
use Rattle.tables.proofs.Tests.{not_so}
use Rattle.session_damage.proofs.EntryLaws.{entries-facts, bad-entry, rows-in-vector, short-list, once-decides}
use Rattle.session_damage.proofs.PlainLaws.{plain-list}
use Rattle.session_damage.proofs.entries_fit.Goals as goal

pub returns-then-n-gt-MAX_ENTRIES : goal.returns-then-n-gt-MAX_ENTRIES
returns-then-n-gt-MAX_ENTRIES c = not_so _ (λ e. let f = entries-facts _ _ _ _ _ e in omega (arith, c.then-n-gt-MAX_ENTRIES.either))

pub returns-then-list_plain : goal.returns-then-list_plain
returns-then-list_plain c = search (plain-list, c.list_plain.ensures)

pub listed_once-requires : goal.listed_once-requires
listed_once-requires c = (omega arith, search rows-in-vector)

pub returns-then-not-list_fits : goal.returns-then-not-list_fits
returns-then-not-list_fits c = search bad-entry

pub returns-then-count-lt2 : goal.returns-then-count-lt2
returns-then-count-lt2 c = search short-list

pub returns : goal.returns
returns c = search once-decides
