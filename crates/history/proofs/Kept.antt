-- Two change tables that agree up to a place say the same of every stretch up to it: what a commit or a tidy reads while it writes.
use mathlib.Core.Path.{◌≡◌, ap}
use mathlib.Core.List.{List}
use Prim.Native.Nat.{ℕ, ◌≤◌, ◌<◌}
use native.Mathlib.Omega.{arith}
use Rattle.bits.specs.Bit.{xorb, bit}
use Rattle.bits.proofs.RowLaws.{smallest-ext}
use Rattle.bits.specs.Words.{bit_at}
use Rattle.rules.specs.State.{Change}
use Rattle.rules.specs.Log.{last_naming, or_empty}
use Rattle.tables.specs.Cells.{slot_words, end_at}
use Rattle.tables.specs.Meaning.{change_at}
use Rattle.tables.proofs.Stretch.{stretch-same}
use Rattle.history.specs.Version.{base_seen}
use Rattle.history.specs.Last.{last_set}
use Rattle.history.specs.Flips.{flipped_in}
use Rattle.history.specs.Query.{queried_since, queried_at}
use Rattle.history.specs.Read.{read_cells}

module _ (changes other : List ℕ) (n : ℕ) (same : (p : ℕ) → p < n → change_at changes p ≡ change_at other p) where
  pub set-kept : (a m row : ℕ) → m ≤ n → last_set changes a m row ≡ last_set other a m row
  unfolding last_set
  set-kept a m row h =
      ap (λ (cs : List Change). or_empty (last_naming cs row))
      (stretch-same (change_at changes) (change_at other) a m (λ j p q. same j (omega arith)))

  pub flipped-kept : (a m v row : ℕ) → m ≤ n → flipped_in changes a m v row ≡ flipped_in other a m v row
  unfolding flipped_in
  flipped-kept a m v row h = ap (λ (set : ℕ). bit set v) (set-kept a m row h)

  pub read_kept : (slots words heads log : List ℕ) (values s row : ℕ) → end_at log s ≤ n
      → read_cells slots words heads log changes values s row ≡ read_cells slots words heads log other values s row
  unfolding read_cells queried_at queried_since
  read_kept slots words heads log values s row h =
      smallest-ext (λ v. queried_at slots words heads log changes s v row) (λ v. queried_at slots words heads log other s v row) values
      (λ v l. ap (xorb (bit_at (slot_words words (base_seen slots heads log s v).slot) row))
      (flipped-kept (base_seen slots heads log s v).from (end_at log s) v row h))
