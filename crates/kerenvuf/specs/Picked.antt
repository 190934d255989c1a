-- The words that a query picked, copied to where C lent room for them.
use Rattle.std.specs.Prelude.{cond, ◌&&◌, List, ℕ, ◌-◌, eqb, leb, length}
use Rattle.std.proofs.Math.Option.{Option, none, some}
use Rattle.bits.specs.Tab.{over}
use Rattle.outcomes.specs.Query.{picked_from}

-- the place that a number names: 0 the scratch, k + 1 slot k
unfoldable pub place_named : ℕ → Option ℕ
place_named n = cond (eqb n 0) none (some (n - 1))

-- the room for the words afterwards, and how many were copied
pub record Copied : Type 0 where
  pub out : List ℕ
  pub count : ℕ

abbrev pub copied : List ℕ → ℕ → Copied
copied out n = record { out = out; count = n }

-- a part of 32 words goes over the first 32 of a room that has so many; else nothing is copied
unfoldable pub copied_to : List ℕ → List ℕ → Copied
copied_to part out = cond (eqb (length part) 32 && leb 32 (length out)) (copied (over part out) 32) (copied out 0)

unfoldable pub picked_to : List ℕ → List ℕ → ℕ → List ℕ → Copied
picked_to ws scratch place out = copied_to (picked_from ws scratch (place_named place)) out
