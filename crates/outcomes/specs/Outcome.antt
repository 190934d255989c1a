-- What a call comes to: the tables, the further lent buffers and the answer; refusals 1 and 2, then the rules' own.
use Rattle.std.specs.Prelude.{cond, List, ℕ}
use Rattle.std.proofs.Math.Option.{Option, none, some}
use Rattle.rules.specs.Calls.{Call}
use Rattle.rules.specs.Refusals.{refusal}
use Rattle.tables.specs.Cells.{Tables}
use Rattle.tables.specs.Room.{roomy}
use Rattle.tables.specs.Damage.{sound}
use Rattle.tables.specs.Meaning.{meaning}
use Rattle.outcomes.specs.Said.{Said, no}

-- every lent cell afterwards, and the answer; the buffers are what is lent beside the tables to be written, in the order of lending:
-- none, query's scratch, or span's list
pub record Outcome : Type 0 where
  pub after : Tables
  pub buffers : List (List ℕ)
  pub answer : Said

abbrev pub outcome : Tables → List (List ℕ) → Said → Outcome
outcome t bs a = record { after = t; buffers = bs; answer = a }

-- the number that a call on lent tables is refused by: 1, 2, or the rules' own at what the tables mean
unfoldable pub refusal_at : Tables → Call → Option ℕ
refusal_at t c = cond (roomy t) (cond (sound t) (refusal (meaning t) c) (some 2)) (some 1)

-- of create: damage is not asked
unfoldable pub refusal_of_create : Tables → Call → Option ℕ
refusal_of_create t c = cond (roomy t) (refusal (meaning t) c) (some 1)

-- "A refusal answers the number and nothing more; no table, scratch or session cell changes."
unfoldable pub unless : Option ℕ → Tables → List (List ℕ) → Outcome → Outcome
unless (some n) t bs o = outcome t bs (no n)
unless none t bs o = o
