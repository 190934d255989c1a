-- `text::cells::all_turned` meets its contract: a fold.
use Rattle.std.proofs.Common.{◌≡◌, true}
use Rattle.text.specs.Short.{Turned}
use Rattle.text.proofs.cells.all_turned.Given as goal

abbrev pub invariant-loop-j : goal.invariant-loop-j
invariant-loop-j l = l.ok ≡ true → Turned l.line l.from l.j
