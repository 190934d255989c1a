-- Query: what it leaves in the tables and in the scratch, and answers; the words that the picker returns.
use Rattle.std.specs.Prelude.{Bool, false, cond, ◌&&◌, List, [], ◌∷◌, ℕ, ◌+◌, ◌*◌, eqb, leb, ltb, length, take, drop}
use Rattle.std.proofs.Math.Option.{Option, none, some}
use Rattle.bits.specs.Tab.{over}
use Rattle.bits.specs.Vec.{vec}
use Rattle.rules.specs.State.{chain, session, start_of}
use Rattle.rules.specs.Versions.{queried, flip_count}
use Rattle.rules.specs.Calls.{query}
use Rattle.tables.specs.Cells.{Tables}
use Rattle.tables.specs.Meaning.{meaning}
use Rattle.history.specs.Version.{slot_seen}
use Rattle.outcomes.specs.Said.{words}
use Rattle.outcomes.specs.Outcome.{Outcome, outcome, refusal_at, unless}

-- the rules' query at the start s of a session, and its flip count
abbrev pub rows_seen : Tables → ℕ → ℕ → ℕ → Bool
rows_seen t s v = queried (meaning t).log (chain (meaning t).chains v) s v

abbrev pub flips_seen : Tables → ℕ → ℕ → ℕ
flips_seen t s v = flip_count (meaning t).log (chain (meaning t).chains v) s v

-- "If it is 0, the answer is that version's own words, otherwise the scratch's first 32 words, which become the copy with those
-- bits flipped. Other scratch words, and all of them when the count is 0, stay."
unfoldable pub asked : Tables → List ℕ → ℕ → ℕ → ℕ → Outcome
asked t scratch s v threshold =
    let n = flips_seen t s v in
    cond (eqb n 0) (outcome t (scratch ∷ []) (words 0 false (some (slot_seen t.slots t.heads s v))))
    (outcome t (over (vec (rows_seen t s v) 32) scratch ∷ []) (words n (ltb threshold n) none))

unfoldable pub query_of : Tables → List ℕ → ℕ → ℕ → ℕ → Outcome
query_of t scratch n v threshold =
    unless (refusal_at t (query n v threshold (length scratch))) t (scratch ∷ [])
    (asked t scratch (start_of (session (meaning t) n)) v threshold)

-- the part that the picker returns: a slot's 32 words, or the scratch's first 32; an empty part where they were not lent
unfoldable pub picked_from : List ℕ → List ℕ → Option ℕ → List ℕ
picked_from ws scratch none = cond (leb 32 (length scratch)) (take 32 scratch) []
picked_from ws scratch (some i) = cond (ltb i 96 && leb (32 * i + 32) (length ws)) (take 32 (drop (32 * i) ws)) []
