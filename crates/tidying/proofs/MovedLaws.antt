-- The changes of moved rows as loops put them: a row, the rows of a word, the rows of a vector.
use Rattle.std.specs.Prelude.{Option}
use mathlib.Core.Path.{◌≡◌, refl, sym, ap, ap₂, ◌∙◌, subst, fun_ext}
use mathlib.Core.List.{List, [], ◌∷◌, ◌++◌, map, map-append}
use Prim.Native.Nat.{ℕ, ◌+◌, ◌-◌, ◌*◌, ◌^◌, ◌≤◌, ◌<◌}
use native.Mathlib.Nat.{add-zero}
use native.Mathlib.Omega.{arith}
use lib.Bits.{bit_and, and_le_l}
use lib.Count.{count_trailing_zeros}
use lib.ListN.{length, get_or, length-map, length-append}
use Rattle.bits.specs.Bit.{clear_bit}
use Rattle.bits.specs.Rows.{count_below, rows_below, count_of, rows_of, word_rows}
use Rattle.bits.proofs.RowLaws.{length-rows, count-split}
use Rattle.bits.proofs.WordRows.{word_none, word_first, word-all}
use Rattle.bits.specs.Words.{bit_at}
use Rattle.rules.specs.State.{Change}
use Rattle.tables.specs.Stores.{put_change}
use Rattle.history.specs.declared.changes.Last.{Last}
use Rattle.history.specs.Last.{last_of, set_of}
use Rattle.history.proofs.LastLaws.{set_of-last}
use Rattle.history.proofs.Kept.{set-kept}
use Rattle.outcomes.specs.Stores.{put_changes}
use Rattle.tidying.specs.Tidy.{less_at, RowsPut, Puttable}
use Rattle.outcomes.proofs.StoreLaws.{length-changes, changes-before, changes-append}

-- ---- no row, one row, more rows

pub put-none : (from to v : ℕ) (l : List ℕ) → RowsPut [] from to v l l from
unfolding put_changes
put-none from to v l = record { stored = refl; place = sym (add-zero from) }

-- what `put_less` knows at its end
pub put_one : (l l' : List ℕ) (p to v row held set : ℕ) (last : Option Last) → last ≡ last_of l to row → held ≡ set_of last
    → set ≡ clear_bit held v → l' ≡ put_change l p row set
    → RowsPut (row ∷ []) p to v l l' (p + 1)
unfolding put_changes
put_one l l' p to v row held set last e h q s = record { stored = rw (s, q, h, e, set_of-last l row to); place = refl }

pub put-length : (rows : List ℕ) (from to v : ℕ) (l l' : List ℕ) (p : ℕ) → RowsPut rows from to v l l' p → length l' ≡ length l
put-length rows from to v l l' p f = ap length f.stored ∙ length-changes l from (map (less_at l to v) rows)

-- changes put at or after `from` leave the flip sets up to `to` before it
less-kept : (l : List ℕ) (from to v : ℕ) (cs : List Change) → to ≤ from → from + length cs ≤ 2048
    → less_at (put_changes l from cs) to v ≡ less_at l to v
less-kept l from to v cs h k =
    fun_ext
    (λ r. ap (λ (m : ℕ). record { row = r; flips = clear_bit m v })
    (set-kept (put_changes l from cs) l from (λ q m. changes-before l from cs k q m) 0 to r h))

pub put-more : (a b : List ℕ) (from to v : ℕ) (l l₁ l₂ : List ℕ) (p q : ℕ) → to ≤ from → p ≤ 2048 → RowsPut a from to v l l₁ p
    → RowsPut b p to v l₁ l₂ q
    → RowsPut (a ++ b) from to v l l₂ q
put-more a b from to v l l₁ l₂ p q h k f g =
    let less = less_at l to v in
    let n : length (map less a) ≡ length a = length-map a less in
    record {
      stored =
          rw (g.stored, f.stored, less-kept l from to v (map less a) h (omega (arith, n, f.place)), f.place, ← n, map-append less a b)
          (sym (changes-append l from (map less a) (map less b)));
      place = omega (arith, g.place, f.place, length-append a b);
    }

-- ---- the rows of a word, from one set bit to the next

-- the changes of the rows of w put from `start` on are those put so far and those of the rows of x put from p on
pub record WordPut (to v : ℕ) (l l' : List ℕ) (start p w base x : ℕ) : Type 0 where
  pub left : put_changes l start (map (less_at l to v) (word_rows w base)) ≡ put_changes l' p (map (less_at l to v) (word_rows x base))
  pub place : start + length (word_rows w base) ≡ p + length (word_rows x base)
  pub kept : less_at l' to v ≡ less_at l to v
  pub room : length l' ≡ length l
  pub after : start ≤ p
  pub low : x < 2 ^ 64

-- the next set bit
abbrev pub next : ℕ → ℕ
next x = count_trailing_zeros 64 x

module _ (to v : ℕ) (l l' : List ℕ) (start p w base x : ℕ) (f : WordPut to v l l' start p w base x) where
  module _ (some : x ≡ 0 → ⊥) (g : Puttable l start to v (length (word_rows w base))) where
    pub next-puttable : Puttable l' p to v 1
    next-puttable = record {
      changes-room = omega (arith, f.room, g.changes-room);
      old-before = omega (arith, f.after, g.old-before);
      places-low = omega (arith, f.place, ap length (word_first x base f.low some), g.places-low);
      value_low = g.value_low;
    }

    pub word_more : (l'' : List ℕ) (q : ℕ) → RowsPut ((base + next x) ∷ []) p to v l' l'' q
        → WordPut to v l l'' start q w base (bit_and x (x - 1))
    unfolding put_changes
    word_more l'' q d =
        let less = less_at l to v in
        let n = base + next x in
        let rest = word_rows (bit_and x (x - 1)) base in
        let s : word_rows x base ≡ n ∷ rest = word_first x base f.low some in
        record {
          left =
              f.left ∙ ap (λ (rows : List ℕ). put_changes l' p (map less rows)) s
              ∙ ap (λ (h : ℕ → Change). put_changes (put_changes l' p (map h (n ∷ []))) (p + 1) (map less rest)) (sym f.kept)
              ∙ ap₂ (λ (m : List ℕ) (k : ℕ). put_changes m k (map less rest)) (sym d.stored) (sym d.place);
          place = omega (arith, f.place, ap length s, d.place);
          kept =
              ap (λ (m : List ℕ). less_at m to v) d.stored
              ∙ less-kept l' p to v (map (less_at l' to v) (n ∷ [])) next-puttable.old-before next-puttable.places-low ∙ f.kept;
          room = put-length (n ∷ []) p to v l' l'' q d ∙ f.room;
          after = omega (arith, d.place, f.after);
          low = omega (arith, f.low, and_le_l x (x - 1));
        }

  pub word-put : x ≡ 0 → RowsPut (word_rows w base) start to v l l' p
  unfolding put_changes
  word-put z =
      let s = word_none x base z in
      record {
        stored = sym (f.left ∙ ap (λ (rows : List ℕ). put_changes l' p (map (less_at l to v) rows)) s);
        place = omega (arith, f.place, ap length s);
      }

-- ---- the rows of a vector, a word at a time

module _ (moved : List ℕ) (from to v : ℕ) (l : List ℕ) where
  pub moved_none : RowsPut (rows_below (bit_at moved) (0 * 64)) from to v l l from
  unfolding rows_below
  moved_none = put-none from to v l

  module _ (l' : List ℕ) (p i : ℕ) (f : RowsPut (rows_below (bit_at moved) (i * 64)) from to v l l' p) (long : length moved ≡ 32)
      (g : Puttable l from to v (count_of moved)) where
    -- there is room for the rows of the next word
    word_room : i < length moved → p + length (word_rows (get_or moved i 0) (i * 64)) ≤ 2048
    unfolding count_of
    word_room h =
        let n = (i + 1) * 64 in
        let z : n + (2048 - n) ≡ 2048 = omega arith in
        omega (
          arith,
          f.place,
          length-rows (bit_at moved) n,
          ap length (word-all moved i),
          length-append (rows_below (bit_at moved) (i * 64)) (word_rows (get_or moved i 0) (i * 64)),
          count-split (bit_at moved) n (2048 - n),
          ap (count_below (bit_at moved)) z,
          ap (λ (m : ℕ). count_below (bit_at moved) (m * 64)) long,
          g.places-low,
        )

    pub word-puttable : i < length moved → Puttable l' p to v (length (word_rows (get_or moved i 0) (i * 64)))
    word-puttable h = record {
      changes-room = omega (arith, put-length (rows_below (bit_at moved) (i * 64)) from to v l l' p f, g.changes-room);
      old-before = omega (arith, f.place, g.old-before);
      places-low = word_room h;
      value_low = g.value_low;
    }

    pub moved-more : i < length moved → (l'' : List ℕ) (q : ℕ) → RowsPut (word_rows (get_or moved i 0) (i * 64)) p to v l' l'' q
        → RowsPut (rows_below (bit_at moved) ((i + 1) * 64)) from to v l l'' q
    moved-more h l'' q d =
        let before = rows_below (bit_at moved) (i * 64) in
        let word = word_rows (get_or moved i 0) (i * 64) in
        subst (λ (rows : List ℕ). RowsPut rows from to v l l'' q) (sym (word-all moved i))
        (put-more before word from to v l l' l'' p q g.old-before (omega (arith, word_room h)) f d)

  pub moved_all : (l' : List ℕ) (p i : ℕ) → length moved ≤ i → i ≤ length moved
      → RowsPut (rows_below (bit_at moved) (i * 64)) from to v l l' p
      → RowsPut (rows_of moved) from to v l l' (from + count_of moved)
  unfolding rows_of count_of
  moved_all l' p i h k f =
      let e : i ≡ length moved = omega arith in
      let g : RowsPut (rows_below (bit_at moved) (length moved * 64)) from to v l l' p =
      subst (λ (m : ℕ). RowsPut (rows_below (bit_at moved) (m * 64)) from to v l l' p) e f in
      record { stored = g.stored; place = ap (λ (m : ℕ). from + m) (sym (length-rows (bit_at moved) (length moved * 64))) }
