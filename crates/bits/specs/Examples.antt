-- Closed examples, by computation.
use Rattle.std.specs.Prelude.{◌≡◌, refl, true, false, List, [], ◌∷◌, ℕ, get_or, replicate}
use Rattle.std.proofs.Math.Option.{none, some}
use Rattle.bits.specs.Bit.{bit, flip_bit, set_bit, clear_bit}
use Rattle.bits.specs.Words.{bit_at}
use Rattle.bits.specs.Tab.{tab}
use Rattle.bits.specs.Vec.{vec, pack_bits}
use Rattle.bits.specs.Column.{holds_at}
use Rattle.bits.specs.All.{all_below}
use Rattle.bits.specs.Tail.{tail_clear}
use Rattle.bits.specs.Rows.{rows_of, rows_below, smallest_below}

-- record 1 of the run: row 0 with {1, 3}; the tidy leaves {1}
toggles : flip_bit (flip_bit 0 1) 3 ≡ 10
unfolding flip_bit
toggles = refl

tidied : clear_bit 10 3 ≡ 2
unfolding clear_bit
tidied = refl

-- row 2,047 is bit 63 of word 31
pub last_row : (ws : List ℕ) → bit_at ws 2047 ≡ bit (get_or ws 31 0) 63
unfolding bit_at
last_row ws = refl

rows : rows_of (9 ∷ replicate 31 0) ≡ 0 ∷ 3 ∷ []
unfolding rows_of rows_below bit_at bit
rows = refl

-- the column 1 2 0 1, the vector of its value 1, and that read back
column : vec (holds_at (1 ∷ 2 ∷ 0 ∷ 1 ∷ []) 1) 32 ≡ 9 ∷ replicate 31 0
unfolding vec tab pack_bits set_bit
column = refl

column-rows : rows_of (vec (holds_at (1 ∷ 2 ∷ 0 ∷ 1 ∷ []) 1) 32) ≡ 0 ∷ 3 ∷ []
unfolding vec tab pack_bits set_bit rows_of rows_below bit_at bit
column-rows = refl

-- read back, row 1 holds 2 and row 4 is absent
present : smallest_below (λ v. bit_at (vec (holds_at (1 ∷ 2 ∷ 0 ∷ 1 ∷ []) v) 1) 1) 4 ≡ some 2
unfolding smallest_below vec tab pack_bits set_bit bit_at bit
present = refl

absent : smallest_below (λ v. bit_at (vec (holds_at (1 ∷ 2 ∷ 0 ∷ 1 ∷ []) v) 1) 4) 4 ≡ none
unfolding smallest_below vec tab pack_bits set_bit bit_at bit
absent = refl

-- no row from 4 on is set in that vector, and row 3 is
tail : tail_clear (9 ∷ replicate 31 0) 4 ≡ true
unfolding tail_clear all_below bit_at bit
tail = refl

no-tail : tail_clear (9 ∷ replicate 31 0) 3 ≡ false
unfolding tail_clear all_below bit_at bit
no-tail = refl
