-- A query on the cells: what it finds, and what it leaves in the scratch.
use Rattle.std.specs.Prelude.{Bool, cond, List, ℕ, ◌≤◌, eqb, length}
use Rattle.bits.specs.Bit.{xorb}
use Rattle.bits.specs.Rows.{count_below}
use Rattle.bits.specs.Tab.{over}
use Rattle.bits.specs.Vec.{vec}
use Rattle.bits.specs.Words.{bit_at}
use Rattle.tables.specs.Cells.{slot_words, end_at}
use Rattle.history.specs.declared.chain.Base.{Base}
use Rattle.history.specs.declared.query.Found.{Found}
use Rattle.history.specs.Version.{base_seen, Based}
use Rattle.history.specs.Flips.{flipped_in, RowsLow}

-- the scratch's first 32 words become the vector of f, the others stay
unfoldable pub front_filled : (ℕ → Bool) → List ℕ → List ℕ
front_filled f scratch = over (vec f 32) scratch

-- "the copy with those bits flipped": the rows of a version, with those turned over that the changes after it flip
unfoldable pub queried_since : Base → List ℕ → List ℕ → ℕ → ℕ → ℕ → Bool
queried_since base words changes to v r = xorb (bit_at (slot_words words base.slot) r) (flipped_in changes base.from to v r)

-- "The flip count is the number of such rows."
unfoldable pub count_since : Base → List ℕ → ℕ → ℕ → ℕ
count_since base changes to v = count_below (flipped_in changes base.from to v) 2048

-- "otherwise the scratch's first 32 words, which become the copy with those bits flipped. Other scratch words, and all of them
-- when the count is 0, stay."
unfoldable pub scratch_since : Base → List ℕ → List ℕ → List ℕ → ℕ → ℕ → List ℕ
scratch_since base words changes scratch to v =
    cond (eqb (count_since base changes to v) 0) scratch (front_filled (queried_since base words changes to v) scratch)

-- the rows that the query of v at s shows
unfoldable pub queried_at : List ℕ → List ℕ → List ℕ → List ℕ → List ℕ → ℕ → ℕ → ℕ → Bool
queried_at slots words heads log changes s v = queried_since (base_seen slots heads log s v) words changes (end_at log s) v

-- what it finds
unfoldable pub found_at : List ℕ → List ℕ → List ℕ → List ℕ → ℕ → ℕ → Found
found_at slots heads log changes s v =
    record { slot = (base_seen slots heads log s v).slot; flips = count_since (base_seen slots heads log s v) changes (end_at log s) v }

-- what it leaves in the scratch
unfoldable pub scratch_at : List ℕ → List ℕ → List ℕ → List ℕ → List ℕ → List ℕ → ℕ → ℕ → List ℕ
scratch_at slots words heads log changes scratch s v = scratch_since (base_seen slots heads log s v) words changes scratch (end_at log s) v

-- what a query needs
pub record Ready (slots words heads log changes scratch : List ℕ) (s v : ℕ) : Type 0 where
  pub based : Based slots heads log s v
  pub words-room : 3072 ≤ length words
  pub scratch-room : 32 ≤ length scratch
  pub stamp-low : s ≤ 512
  pub rows : RowsLow changes 0 (end_at log s)
