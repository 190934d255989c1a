-- Laws of the loops that write the rows of a vector: from one set bit of a word to the next, and a word at a time.
use mathlib.Core.Path.{◌≡◌, refl, sym, ap, ◌∙◌}
use mathlib.Core.List.{List, [], ◌∷◌}
use mathlib.Core.Bool.{Bool, true, false, cond}
use Prim.Native.Nat.{ℕ, ◌+◌, ◌-◌, ◌*◌, ◌^◌, ◌<◌, ◌≤◌}
use mir.Val.{bool_byte}
use native.Mathlib.Omega.{arith}
use lib.Bits.{bit_and, and_le_l}
use lib.Count.{count_trailing_zeros}
use lib.ListN.{length, get_or, length-append}
use lib.Seq.{sets}
use Rattle.bits.specs.Words.{bit_at}
use Rattle.bits.specs.Rows.{rows_below, rows_of, count_of, word_rows}
use Rattle.bits.proofs.RowLaws.{count-le}
use Rattle.bits.proofs.TabLaws.{sets-append}
use Rattle.bits.proofs.WordRows.{lowest-lt, word_none, word_first, word-less, word-length, word-all, count-rows}
use Rattle.rules.specs.Calls.{ok, listed}
use Rattle.text.specs.Show.{spaced, show}
use Rattle.writing.specs.Wrote.{Wrote, Answered, field_of}
use Rattle.writing.proofs.ShowLaws.{decimal-fits, spaced-append}
use Rattle.writing.proofs.WroteLaws.{wrote_then, ok-then}

-- ---- a loop that writes the rows of a word: what is written, and what is still to come

row-far : (d f : List ℕ) (at n r : ℕ) → Wrote d at (field_of n) f r → n < 10000 → r ≤ at + 5
row-far d f at n r w h = omega (arith, w.place_is, decimal-fits 3 n h)

pub record Rowing (entry out : List ℕ) (start at w base x : ℕ) : Type 0 where
  pub list-is : sets entry start (spaced (word_rows w base)) ≡ sets out at (spaced (word_rows x base))
  pub place_is : start + length (spaced (word_rows w base)) ≡ at + length (spaced (word_rows x base))
  pub room : length out ≡ length entry
  pub left : at + 5 * length (word_rows x base) ≤ start + 320
  pub low : x < 2 ^ 64

pub rowing-none : (d : List ℕ) (start w base : ℕ) → w < 2 ^ 64 → Rowing d d start start w base w
rowing-none d start w base h = record { list-is = refl; place_is = refl; room = refl; left = omega (arith, word-length w base); low = h }

module _ (entry out : List ℕ) (start at w base x : ℕ) (g : Rowing entry out start at w base x) where
  module _ (some : x ≡ 0 → ⊥) where
    pub row_lt : base + 64 ≤ 10000 → base + count_trailing_zeros 64 x < 10000
    row_lt b = omega (arith, lowest-lt 64 x g.low some)

    pub row_room : start + 320 ≤ length entry → at + 5 ≤ length out
    row_room h = omega (arith, g.left, g.room, ap length (word_first x base g.low some))

    pub row-less : length (word_rows (bit_and x (x - 1)) base) < length (word_rows x base)
    row-less = word-less x base g.low some

    pub rowing-step : (n r : ℕ) (f : List ℕ) → base + 64 ≤ 10000 → n ≡ base + count_trailing_zeros 64 x → Wrote out at (field_of n) f r
        → Rowing entry f start r w base (bit_and x (x - 1))
    unfolding spaced
    rowing-step n r f b e v =
        let rest = word_rows (bit_and x (x - 1)) base in
        let s : word_rows x base ≡ n ∷ rest = word_first x base g.low some ∙ rw e in
        let k : length (spaced (word_rows x base)) ≡ length (field_of n) + length (spaced rest)
        = ap (λ (l : List ℕ). length (spaced l)) s ∙ length-append (field_of n) (spaced rest) in
        record {
          list-is = g.list-is ∙ rw (s, v.list-is, v.place_is) (sets-append (field_of n) (spaced rest) out at);
          place_is = g.place_is ∙ omega (arith, k, v.place_is);
          room = v.room ∙ g.room;
          left = omega (arith, g.left, ap length s, row-far out f at n r v (omega (arith, row_lt b)));
          low = omega (arith, g.low, and_le_l x (x - 1));
        }

  pub rowing-end : x ≡ 0 → (Wrote entry start (spaced (word_rows w base)) out at) × (at ≤ start + 320)
  unfolding spaced
  rowing-end z =
      let s = word_none x base z in (
        record {
          list-is = sym (g.list-is ∙ rw s);
          place_is = sym (g.place_is ∙ rw s (omega arith));
          room = g.room;
        },
        omega (arith, g.left),
      )

-- ---- word by word: the rows of the first i words are written

pub record Worded (ws entry out : List ℕ) (start at i : ℕ) : Type 0 where
  pub wrote : Wrote entry start (spaced (rows_below (bit_at ws) (i * 64))) out at
  pub far : at ≤ start + 320 * i

pub worded-none : (ws entry : List ℕ) (start : ℕ) → Worded ws entry entry start start 0
unfolding rows_below spaced
worded-none ws entry start =
    record { wrote = record { list-is = refl; place_is = omega arith; room = refl }; far = omega arith }

module _ (ws entry out : List ℕ) (start at i : ℕ) (g : Worded ws entry out start at i) where
  pub worded-step : (w base r : ℕ) (f : List ℕ) → w ≡ get_or ws i 0 → base ≡ i * 64
      → (Wrote out at (spaced (word_rows w base)) f r) × (r ≤ at + 320)
      → Worded ws entry f start r (i + 1)
  worded-step w base r f e b v =
      let before = rows_below (bit_at ws) (i * 64) in
      let word = word_rows (get_or ws i 0) (i * 64) in
      let u : Wrote out at (spaced word) f r = rw (e, b) at v.0 in
      record {
        wrote =
            rw (word-all ws i, spaced-append before word)
            (wrote_then entry (spaced before) out (spaced word) f start at r g.wrote u);
        far = omega (arith, g.far, v.1);
      }

  pub worded-end : length ws ≡ i → (Wrote entry start (spaced (rows_of ws)) out at) × (at ≤ start + 320 * length ws)
  unfolding rows_of
  worded-end e = (rw e g.wrote, omega (arith, g.far))

-- ---- the whole answer

-- a bool as a number
pub from_bool : (t : Bool) → bool_byte t ≡ cond t 1 0
from_bool false = refl
from_bool true = refl

pub query-rows : (ws d e g : List ℕ) (flips due n j : ℕ) (t : Bool) (m r : ℕ) → due ≡ bool_byte t → n ≡ j → j ≡ count_of ws
    → Answered d (ok (flips ∷ due ∷ n ∷ [])) e m 35 → (Wrote e m (spaced (rows_of ws)) g r) × (r ≤ m + 320 * length ws)
    → Answered d (listed flips t (rows_of ws)) g r (35 + 320 * length ws)
unfolding show
query-rows ws d e g flips due n j t m r p i q u w =
    let c : n ≡ length (rows_of ws) = i ∙ q ∙ count-rows ws in
    record {
      wrote = rw (← c, ← from_bool t, ← p) (ok-then (flips ∷ due ∷ n ∷ []) (rows_of ws) d e g m r u.wrote w.0);
      short = omega (arith, u.short, w.1);
    }

pub count_small : (ws : List ℕ) (n : ℕ) → n ≡ count_of ws → length ws ≤ 32 → n ≤ 2048
unfolding count_of
count_small ws n e h = omega (arith, count-le (bit_at ws) (length ws * 64), e)
