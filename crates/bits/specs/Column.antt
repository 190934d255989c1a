-- A column of bytes: the rows that hold a value, and the value that a byte stands for.
use Rattle.std.specs.Prelude.{◌≡◌, refl, Bool, cond, ◌&&◌, ◌||◌, List, ℕ, ◌+◌, ◌*◌, ◌/◌, ◌%◌, ◌≤◌, ◌<◌, eqb, ltb, length, get_or}
use Rattle.std.proofs.Common.{ap, ne_eqb}
use Rattle.std.proofs.Math.Option.{Option, none, some}
use Rattle.bits.specs.Words.{bit_at}
use Rattle.bits.specs.Vec.{pack_bits, vec}

-- row r of a column holds the value v; 255, and a row past its end, is absent
abbrev pub holds_at : List ℕ → ℕ → ℕ → Bool
holds_at col v r = eqb (get_or col r 255) v

-- row q % 2048 of a column holds the value q / 2048, which is below 32: bit q of the vectors of all values, one after another
unfoldable pub column_bit : List ℕ → ℕ → Bool
column_bit col q = ltb (q / 2048) 32 && holds_at col (q / 2048) (q % 2048)

-- the words with the rows that have f set too
abbrev pub with_rows : (ℕ → Bool) → List ℕ → List ℕ
with_rows f ws = vec (λ q. bit_at ws q || f q) (length ws)

-- bit q is of word i of its vector, and in the column
unfoldable pub in_word : List ℕ → ℕ → ℕ → Bool
in_word col i q = eqb (q % 2048 / 64) i && column_bit col q

-- of the rows of word i of the column the first k that hold v, in word v, for each v below 32
pub record Gathered (col : List ℕ) (i k : ℕ) (own : List ℕ) : Type 0 where
  pub at : (v : ℕ) → v < 32 → get_or own v 0 ≡ pack_bits (λ j. holds_at col v (i * 64 + j)) k

-- what a loop that gathers the rows `from` to `to` of word i needs
pub record Gatherable (own col : List ℕ) (i from to : ℕ) : Type 0 where
  pub room : 256 ≤ length own
  pub ordered : from ≤ to
  pub in-word : to ≤ 64
  pub in-column : i * 64 + to ≤ length col
  pub sofar : Gathered col i from own

-- the value that a byte stands for
unfoldable pub value_of : ℕ → Option ℕ
value_of b = cond (eqb b 255) none (some b)

pub value_none : value_of 255 ≡ none
unfolding value_of
value_none = refl

pub value-some : (b : ℕ) → (b ≡ 255 → ⊥) → value_of b ≡ some b
unfolding value_of
value-some b h = ap (λ (t : Bool). cond t none (some b)) (ne_eqb b 255 h)
