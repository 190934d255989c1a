-- `history::read_after` meets its contract. The invariant: no value so far has the row.
use mathlib.Core.Path.{◌≡◌}
use mathlib.Core.Option.{none}
use Rattle.history.specs.Read.{read_after}
use Rattle.history.proofs.read.read_after.Given as goal

abbrev pub invariant-loop-v : goal.invariant-loop-v
invariant-loop-v l = read_after l.t.slots.now l.t.words.now l.t.heads.now l.t.log.now l.v l.s.0 l.row.0 l.last ≡ none
