-- `text::requests::numbers` meets its contract: what is found and what is still to come make the whole.
use Rattle.std.proofs.Common.{◌≡◌, ◌≤◌, length}
use Rattle.text.specs.Asked.{exactly}
use Rattle.text.proofs.RequestLaws.{numbers_at, with_rest}
use Rattle.text.proofs.requests.numbers.Given as goal

abbrev pub invariant-loop-i : goal.invariant-loop-i
invariant-loop-i g l = (l.next ≤ length l.line) × (length l.found ≡ g.row.N) × (exactly g.row.N (numbers_at l.line l.at) ≡ with_rest g.row.N l.found l.i (numbers_at l.line l.next))
