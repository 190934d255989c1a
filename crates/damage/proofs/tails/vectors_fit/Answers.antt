-- `vectors_fit` meets its contract: all vectors at once while the row count is the first one, else those below C, and then each.
use native.Mathlib.Omega.{arith}
use Rattle.tables.proofs.ClockLaws.{low-first-slots, low-slots}
use Rattle.damage.proofs.VectorLaws.{room_for, stamps-low, one-count, first-fails, rest-decides}
use Rattle.damage.proofs.tails.vectors_fit.Goals as goal

pub tails_clear-requires : goal.tails_clear-requires
tails_clear-requires c = search (room_for, low-slots)

pub tails_clear-requires-2 : goal.tails_clear-requires-2
tails_clear-requires-2 c = search (room_for, low-first-slots)

pub each_vector_fits-requires : goal.each_vector_fits-requires
each_vector_fits-requires c = (search low-slots, omega arith, omega arith, omega arith, search stamps-low)

pub returns-then-c : goal.returns-then-c
returns-then-c c = search one-count

pub returns-else-tails_clear : goal.returns-else-tails_clear
returns-else-tails_clear c = search first-fails

pub returns-then-tails_clear : goal.returns-then-tails_clear
returns-then-tails_clear c = search rest-decides
