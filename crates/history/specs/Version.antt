-- The slot of a value that a stamp sees, on the cells alone: also where a link does not fall, as in damaged tables.
use Rattle.std.specs.Prelude.{cond, List, ℕ, zero, suc, ◌-◌, ◌≤◌, ◌<◌, leb, ltb, eqb, length}
use Rattle.tables.specs.Cells.{slot_stamp, slot_link, head_of, end_at}
use Rattle.history.specs.declared.chain.Base.{Base}

-- "follow the link to the version before until the stamp b is at most s": slot i, or what `rest` says of the slot that its link
-- leads to; a chain ends where there is no link, and where a link does not fall
unfoldable pub version_step : List ℕ → ℕ → (ℕ → ℕ) → ℕ → ℕ
version_step slots s rest i =
    cond (leb (slot_stamp slots i) s) i
    (cond (eqb (slot_link slots i) 0) i (cond (ltb i (slot_link slots i)) i (rest (slot_link slots i - 1))))

-- at most n links further
unfoldable pub version_from : List ℕ → ℕ → ℕ → ℕ → ℕ
version_from slots s zero i = i
version_from slots s (suc n) i = version_step slots s (λ j. version_from slots s n j) i

-- from slot i on: "the slot number falls at each link", so that i + 1 steps are enough
unfoldable pub version_slot : List ℕ → ℕ → ℕ → ℕ
version_slot slots s i = version_from slots s (suc i) i

-- "From the head of v"
unfoldable pub slot_seen : List ℕ → List ℕ → ℕ → ℕ → ℕ
slot_seen slots heads s v = version_slot slots s (head_of heads v)

-- that slot, and where the changes after its stamp start
unfoldable pub base_seen : List ℕ → List ℕ → List ℕ → ℕ → ℕ → Base
base_seen slots heads log s v =
    record { slot = slot_seen slots heads s v; from = end_at log (slot_stamp slots (slot_seen slots heads s v)) }

-- what the search for the version of v needs
pub record Headed (slots heads : List ℕ) (v : ℕ) : Type 0 where
  pub value_low : v < 32
  pub slots-room : 288 ≤ length slots
  pub heads-room : 32 ≤ length heads
  pub head-low : head_of heads v < 96

-- and what the end of its changes needs
pub record Based (slots heads log : List ℕ) (s v : ℕ) : Type 0 where
  pub headed : Headed slots heads v
  pub log-room : 2048 ≤ length log
  pub base-low : slot_stamp slots (slot_seen slots heads s v) ≤ 512
