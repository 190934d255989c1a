-- What a row holds at a stamp, on the cells.
use Rattle.std.specs.Prelude.{Bool, ◌&&◌, List, ℕ, ◌≤◌, ◌<◌, ltb, length}
use Rattle.std.specs.Prelude as kit
use Rattle.std.specs.Prelude.{Some, None}
use Rattle.std.proofs.Math.Option.{Option, none, some}
use Rattle.bits.specs.Bit.{xorb, bit}
use Rattle.bits.specs.Rows.{smallest_below}
use Rattle.bits.specs.Words.{bit_at}
use Rattle.tables.specs.declared.counts.Value.{Value}
use Rattle.tables.specs.Cells.{slot_words, end_at}
use Rattle.history.specs.declared.chain.Base.{Base}
use Rattle.history.specs.declared.changes.Last.{Last}
use Rattle.history.specs.Last.{place_of, set_of}
use Rattle.history.specs.Version.{base_seen, Based}
use Rattle.history.specs.Query.{queried_at}

-- "gives the value or says absent"
abbrev pub standing_of : kit.Option Value → Option ℕ
standing_of (Some v) = some v.0
standing_of None = none

-- "the smallest v whose query has the bit; absent if none"
unfoldable pub read_cells : List ℕ → List ℕ → List ℕ → List ℕ → List ℕ → ℕ → ℕ → ℕ → Option ℕ
read_cells slots words heads log changes values s row = smallest_below (λ v. queried_at slots words heads log changes s v row) values

-- a value is flipped where the last change of the row stands at or after `from`, the end of its version, and has it
unfoldable pub last_flips : kit.Option Last → ℕ → ℕ → Bool
last_flips last from v = ltb from (place_of last) && bit (set_of last) v

-- so the query of the value has the row
unfoldable pub has_after : Base → List ℕ → ℕ → kit.Option Last → ℕ → Bool
has_after base words row last v = xorb (bit_at (slot_words words base.slot) row) (last_flips last base.from v)

-- the read by the last change of the row alone
unfoldable pub read_after : List ℕ → List ℕ → List ℕ → List ℕ → ℕ → ℕ → ℕ → kit.Option Last → Option ℕ
read_after slots words heads log values s row last = smallest_below (λ v. has_after (base_seen slots heads log s v) words row last v) values

-- what a read needs, of each value
pub record Readable (slots words heads log : List ℕ) (values s : ℕ) : Type 0 where
  pub words-room : 3072 ≤ length words
  pub each-based : (v : ℕ) → v < values → Based slots heads log s v

-- and of the changes
pub record ReadReady (slots words heads log changes : List ℕ) (values s : ℕ) : Type 0 where
  pub readable : Readable slots words heads log values s
  pub stamp-low : s ≤ 512
  pub log-room : 2048 ≤ length log
  pub changes-room : 4096 ≤ length changes
  pub end_low : end_at log s ≤ 2048
