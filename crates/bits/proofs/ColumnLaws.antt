-- The passes over a column that set each row in its value's vector: the rows of one word gathered by value, then stored vector by vector.
use mathlib.Core.Path.{◌≡◌, refl, sym, ap, ap₂, ◌∙◌, subst}
use mathlib.Core.Bool.{Bool, false, cond, ◌&&◌, ◌||◌, or-false, and-false}
use mathlib.Core.List.{List, ◌++◌}
use mathlib.Core.Logic.{◌⊎◌, inl, inr}
use Prim.Native.Nat.{ℕ, ◌+◌, ◌-◌, ◌*◌, ◌/◌, ◌%◌, ◌^◌, ◌≤◌, ◌<◌, min, zero-le}
use native.Mathlib.Omega.{arith}
use borrow.Author.Tests.{eq-eqb, ne_eqb, lt-ltb, le-ltb}
use lib.Bits.{bit_or, or_lt}
use lib.Dec.{eqb, ltb}
use lib.ListN.{length, get_or, take, drop, set, length-set, length-append, length-drop, get_or-append, get_or-eq_default}
use lib.Seq.{get_or-set_same, get_or-set_other, length-take-le}
use Rattle.bits.proofs.Cases.{eq-cases, lt-cases}
use Rattle.bits.specs.Bit.{bit, set_bit}
use Rattle.bits.proofs.BitLaws.{bit-or, one_shl}
use Rattle.bits.proofs.TabLaws.{get_or-tab, get_d_any}
use Rattle.bits.specs.Words.{bit_at, Words}
use Rattle.bits.proofs.WordLaws.{words-set}
use Rattle.bits.specs.Vec.{pack_bits, word_of, vec}
use Rattle.bits.proofs.VecLaws.{pack-lt, bit-pack, word_none, pack-more, pack-cut}
use Rattle.bits.proofs.VecLaws.{length-vec, bit_at-vec, words-vec, vec-unique, vec-ext, vec-bits}
use Rattle.bits.specs.Column.{holds_at, column_bit, with_rows, in_word, Gathered, Gatherable}

-- a row past the end holds no value
holds-past : (col : List ℕ) (v r : ℕ) → v < 255 → length col ≤ r → holds_at col v r ≡ false
holds-past col v r h l = ap (λ (b : ℕ). eqb b v) (get_or-eq_default col 255 l) ∙ ne_eqb 255 v (λ e. omega arith)

-- ---- a loop that gathers the rows of word i: w has the first k of them

module _ (col : List ℕ) (v i : ℕ) where
  abbrev rows_from : ℕ → ℕ
  rows_from k = pack_bits (λ j. holds_at col v (i * 64 + j)) k

  column-more : (k w u : ℕ) → i * 64 + k < length col → w ≡ rows_from k → u ≡ cond (eqb (get_or col (i * 64 + k) 0) v) (set_bit w k) w
      → u ≡ rows_from (k + 1)
  column-more k w u h e q =
      q ∙ ap₂ (λ (b x : ℕ). cond (eqb b v) (set_bit x k) x) (get_d_any col (i * 64 + k) 0 255 h) e
      ∙ sym (pack-more (λ j. holds_at col v (i * 64 + j)) k)

  column-all : (n w : ℕ) → v < 255 → n ≡ min 64 (length col - i * 64) → w ≡ rows_from n → w ≡ word_of (holds_at col v) i
  column-all n w h e q =
      q ∙ sym (pack-cut (λ j. holds_at col v (i * 64 + j)) n 64 (omega arith) (λ k l o. holds-past col v (i * 64 + k) h (omega arith)))

-- ---- the rows of word i, gathered by value

-- the words that are cleared first
pub front-words : (own : List ℕ) → 256 ≤ length own → 32 ≡ length (take 32 own)
front-words own h = sym (length-take-le 32 own (omega arith))

module _ (col : List ℕ) (i : ℕ) where
  -- none yet, in words whose first 32 are clear
  pub gather_none : (ys own : List ℕ) (to : ℕ) → ys ≡ vec (λ r. false) (length (take 32 own)) → 256 ≤ length own → to ≤ 64
      → i * 64 + to ≤ length col → Gatherable (ys ++ drop 32 own) col i 0 to
  unfolding pack_bits vec
  gather_none ys own to e h l m =
      let t : length (take 32 own) ≡ 32 = length-take-le 32 own (omega arith) in
      let n : length ys ≡ 32 = ap length e ∙ length-vec (λ r. false) (length (take 32 own)) ∙ t in
      record {
        room = omega (arith, length-append ys (drop 32 own), length-drop 32 own);
        ordered = zero-le;
        in-word = l;
        in-column = m;
        sofar = record {
          at = λ v k.
              get_or-append ys (drop 32 own) 0 v (omega arith) ∙ ap (λ (w : List ℕ). get_or w v 0) e
              ∙ get_or-tab (word_of (λ r. false)) (length (take 32 own)) v 0 (omega arith) ∙ sym (word_none v);
        };
      }

  -- one row more: the word of its byte has it, and no other
  pub gather-more : (own : List ℕ) (k to b : ℕ) → Gatherable own col i k to → k < to → b ≡ get_or col (i * 64 + k) 0 → b < 256
      → Gatherable (set own b (bit_or (get_or own b 0) (1 * 2 ^ k % 2 ^ 64))) col i (k + 1) to
  unfolding set_bit
  gather-more own k to b g h e l = record {
    room = omega (arith, length-set own b u, g.room);
    ordered = omega arith;
    in-word = g.in-word;
    in-column = g.in-column;
    sofar = record {
      at = λ v m.
          let inside : i * 64 + k < length col = omega (arith, g.in-column) in
          column-more col v i k (get_or own v 0) (get_or (set own b u) v 0) inside (g.sofar.at v m) (here v (eq-cases v b));
    };
  }
    where
      u : ℕ
      u = bit_or (get_or own b 0) (1 * 2 ^ k % 2 ^ 64)

      put : ℕ → Bool → ℕ
      put v t = cond t (set_bit (get_or own v 0) k) (get_or own v 0)

      here : (v : ℕ) → (v ≡ b) ⊎ (v ≡ b → ⊥) → get_or (set own b u) v 0 ≡ put v (eqb (get_or col (i * 64 + k) 0) v)
      here v (inl s) =
          ap (λ (x : ℕ). get_or (set own b u) x 0) s ∙ get_or-set_same own b u 0 (omega (arith, g.room))
          ∙ ap₂ (λ (x y : ℕ). bit_or (get_or own x 0) y) (sym s) (one_shl 64 k (omega (arith, g.in-word)))
          ∙ ap (put v) (sym (eq-eqb (get_or col (i * 64 + k) 0) v (sym e ∙ sym s)))
      here v (inr n) =
          get_or-set_other own b v u 0 n
          ∙ ap (put v) (sym (ne_eqb (get_or col (i * 64 + k) 0) v (λ s. n (sym s ∙ sym e))))

  -- those past the end of the column hold no value
  pub gather-all : (own : List ℕ) (n : ℕ) → n ≡ min 64 (length col - i * 64) → Gathered col i n own → Gathered col i 64 own
  gather-all own n e g = record { at = λ v m. column-all col v i n (get_or own v 0) (omega arith) e (g.at v m) }

-- ---- rows set in vectors, in passes: the rows q with r q whose number g q is below n

pub record Grown (g : ℕ → ℕ) (r : ℕ → Bool) (w₀ w : List ℕ) (n : ℕ) : Type 0 where
  pub same : length w ≡ length w₀
  pub sofar : w ≡ with_rows (λ q. ltb (g q) n && r q) w₀

module _ (g : ℕ → ℕ) (r : ℕ → Bool) (w₀ : List ℕ) where
  pub grown-none : Words w₀ → Grown g r w₀ w₀ 0
  grown-none h = record {
    same = refl;
    sofar =
        sym (vec-bits w₀ h)
        ∙ vec-ext (bit_at w₀) (λ q. bit_at w₀ q || ltb (g q) 0 && r q) (length w₀)
        (λ q l. sym (ap (λ (t : Bool). bit_at w₀ q || t && r q) (le-ltb (g q) 0 zero-le) ∙ or-false (bit_at w₀ q)));
  }

  pub grown-more : {w w' : List ℕ} {n : ℕ} → Grown g r w₀ w n → w' ≡ with_rows (λ q. eqb (g q) n && r q) w
      → Grown g r w₀ w' (n + 1)
  grown-more {w} {w'} {n} p e =
      let then : ℕ → Bool = λ q. bit_at w₀ q || ltb (g q) (n + 1) && r q in
      let sofar : w' ≡ vec then (length w₀) =
      e ∙ ap (vec (λ q. bit_at w q || eqb (g q) n && r q)) p.same
      ∙ vec-ext (λ q. bit_at w q || eqb (g q) n && r q) then (length w₀) (λ q l. one q l (lt-cases (g q) n) (eq-cases (g q) n)) in
      record { same = ap length sofar ∙ length-vec then (length w₀); sofar = sofar }
    where
      before : (q : ℕ) → q < length w₀ * 64 → bit_at w q ≡ bit_at w₀ q || ltb (g q) n && r q
      before q l = ap (λ (x : List ℕ). bit_at x q) p.sofar ∙ bit_at-vec (λ q. bit_at w₀ q || ltb (g q) n && r q) (length w₀) q l

      one : (q : ℕ) → q < length w₀ * 64 → (g q < n) ⊎ (n ≤ g q) → (g q ≡ n) ⊎ (g q ≡ n → ⊥)
          → bit_at w q || eqb (g q) n && r q ≡ bit_at w₀ q || ltb (g q) (n + 1) && r q
      one q l (inl a) (inl b) = absurd (omega arith)
      one q l (inr a) (inl b) =
          rw (before q l, le-ltb (g q) n a, eq-eqb (g q) n b, lt-ltb (g q) (n + 1) (omega arith), or-false (bit_at w₀ q))
      one q l (inl a) (inr b) =
          rw (before q l, lt-ltb (g q) n a, ne_eqb (g q) n b, lt-ltb (g q) (n + 1) (omega arith)) (or-false (bit_at w₀ q || r q))
      one q l (inr a) (inr b) =
          rw (before q l, le-ltb (g q) n a, ne_eqb (g q) n b, le-ltb (g q) (n + 1) (omega arith)) (or-false (bit_at w₀ q || false))

  pub grown-all : {w : List ℕ} {n : ℕ} → Grown g r w₀ w n → ((q : ℕ) → n ≤ g q → r q ≡ false) → w ≡ with_rows r w₀
  grown-all {w} {n} p h =
      p.sofar ∙ vec-ext (λ q. bit_at w₀ q || ltb (g q) n && r q) (λ q. bit_at w₀ q || r q) (length w₀)
      (λ q l. ap (λ (t : Bool). bit_at w₀ q || t) (go q (lt-cases (g q) n)))
    where
      go : (q : ℕ) → (g q < n) ⊎ (n ≤ g q) → ltb (g q) n && r q ≡ r q
      go q (inl l) = ap (λ (t : Bool). t && r q) (lt-ltb (g q) n l)
      go q (inr l) = ap (λ (t : Bool). t && r q) (le-ltb (g q) n l) ∙ sym (h q l)

  grown-words : {w : List ℕ} {n : ℕ} → Grown g r w₀ w n → Words w
  grown-words {w} {n} p = subst Words (sym p.sofar) (words-vec (λ q. bit_at w₀ q || ltb (g q) n && r q) (length w₀))

-- ---- the words of one word's rows, stored vector by vector

-- a word with the bits of another
or_word : (w : List ℕ) (p x : ℕ) → Words w → p < length w → x < 2 ^ 64
    → set w p (bit_or (get_or w p 0) x) ≡ with_rows (λ q. eqb (q / 64) p && bit x (q % 64)) w
unfolding bit_at
or_word w p x h l m =
    vec-unique (λ q. bit_at w q || eqb (q / 64) p && bit x (q % 64)) (length w) (set w p u) (length-set w p u)
    (words-set w p u h (or_lt 64 (get_or w p 0) x (h p) m)) (λ q k. go q (eq-cases (q / 64) p))
  where
    u : ℕ
    u = bit_or (get_or w p 0) x

    go : (q : ℕ) → (q / 64 ≡ p) ⊎ (q / 64 ≡ p → ⊥)
        → bit (get_or (set w p u) (q / 64) 0) (q % 64) ≡ bit (get_or w (q / 64) 0) (q % 64) || eqb (q / 64) p && bit x (q % 64)
    go q (inl e) = rw (eq-eqb (q / 64) p e, e, get_or-set_same w p u 0 l) (bit-or (get_or w p 0) x (q % 64))
    go q (inr n) = rw (ne_eqb (q / 64) p n, get_or-set_other w p (q / 64) u 0 n) (sym (or-false (bit (get_or w (q / 64) 0) (q % 64))))

module _ (col : List ℕ) (i : ℕ) (low : i < 32) where
  -- the rows of word i that hold v are those of word i of vector v
  word_row : (v q : ℕ) → v < 32 → eqb (q / 64) (32 * v + i) && bit (word_of (holds_at col v) i) (q % 64) ≡ eqb (q / 2048) v && in_word col i q
  unfolding in_word column_bit
  word_row v q h = go (eq-cases (q / 2048) v) (eq-cases (q % 2048 / 64) i)
    where
      go : (q / 2048 ≡ v) ⊎ (q / 2048 ≡ v → ⊥) → (q % 2048 / 64 ≡ i) ⊎ (q % 2048 / 64 ≡ i → ⊥)
          → eqb (q / 64) (32 * v + i) && bit (word_of (holds_at col v) i) (q % 64)
          ≡ eqb (q / 2048) v && (eqb (q % 2048 / 64) i && (ltb (q / 2048) 32 && holds_at col (q / 2048) (q % 2048)))
      go (inl a) (inl b) =
          let e : q % 2048 ≡ i * 64 + q % 64 = omega arith in
          let in-word = bit-pack (λ k. holds_at col v (i * 64 + k)) 64 (q % 64) (omega arith) in
          rw (eq-eqb (q / 64) (32 * v + i) (omega arith), in-word, a, eq-eqb v v refl, eq-eqb (q % 2048 / 64) i b, lt-ltb v 32 h, e)
      go (inl a) (inr b) =
          rw (ne_eqb (q / 64) (32 * v + i) (λ e. b (omega arith)), ne_eqb (q % 2048 / 64) i b) (sym (and-false (eqb (q / 2048) v)))
      go (inr a) b = rw (ne_eqb (q / 64) (32 * v + i) (λ e. a (omega arith)), ne_eqb (q / 2048) v a)

  pub vector-more : (w₀ w own : List ℕ) (v : ℕ) → Grown (λ q. q / 2048) (in_word col i) w₀ w v → Gathered col i 64 own → v < 32
      → 1024 ≤ length w₀ → Grown (λ q. q / 2048) (in_word col i) w₀ (set w (32 * v + i) (bit_or (get_or w (32 * v + i) 0) (get_or own v 0)))
      (v + 1)
  vector-more w₀ w own v p o h room =
      let x = word_of (holds_at col v) i in
      grown-more (λ q. q / 2048) (in_word col i) w₀ p
      (ap (λ (y : ℕ). set w (32 * v + i) (bit_or (get_or w (32 * v + i) 0) y)) (o.at v h)
      ∙ or_word w (32 * v + i) x (grown-words (λ q. q / 2048) (in_word col i) w₀ p) (omega (arith, p.same))
      (pack-lt (λ k. holds_at col v (i * 64 + k)) 64)
      ∙ vec-ext (λ q. bit_at w q || eqb (q / 64) (32 * v + i) && bit x (q % 64)) (λ q. bit_at w q || eqb (q / 2048) v && in_word col i q)
      (length w) (λ q l. ap (λ (t : Bool). bit_at w q || t) (word_row v q h)))

  -- from value 32 on there is none
  pub vectors-end : (w₀ w : List ℕ) (v : ℕ) → Grown (λ q. q / 2048) (in_word col i) w₀ w v → 32 ≤ v
      → w ≡ with_rows (in_word col i) w₀
  unfolding in_word column_bit
  vectors-end w₀ w v p h =
      grown-all (λ q. q / 2048) (in_word col i) w₀ p
      (λ q l. ap (λ (t : Bool). eqb (q % 2048 / 64) i && (t && holds_at col (q / 2048) (q % 2048))) (le-ltb (q / 2048) 32 (omega arith))
      ∙ and-false (eqb (q % 2048 / 64) i))

-- ---- word by word

module _ (col w₀ : List ℕ) where
  pub word_more : (w w' : List ℕ) (i : ℕ) → Grown (λ q. q % 2048 / 64) (column_bit col) w₀ w i
      → w' ≡ with_rows (in_word col i) w → Grown (λ q. q % 2048 / 64) (column_bit col) w₀ w' (i + 1)
  unfolding in_word
  word_more w w' i p e = grown-more (λ q. q % 2048 / 64) (column_bit col) w₀ p e

  -- past the column's end no row holds a value
  pub words-end : (w : List ℕ) (i : ℕ) → Grown (λ q. q % 2048 / 64) (column_bit col) w₀ w i → length col ≤ i * 64
      → w ≡ with_rows (column_bit col) w₀
  unfolding column_bit
  words-end w i p h = grown-all (λ q. q % 2048 / 64) (column_bit col) w₀ p (λ q l. none q l (lt-cases (q / 2048) 32))
    where
      none : (q : ℕ) → i ≤ q % 2048 / 64 → (q / 2048 < 32) ⊎ (32 ≤ q / 2048)
          → ltb (q / 2048) 32 && holds_at col (q / 2048) (q % 2048) ≡ false
      none q l (inl m) =
          ap (λ (t : Bool). ltb (q / 2048) 32 && t) (holds-past col (q / 2048) (q % 2048) (omega arith) (omega arith))
          ∙ and-false (ltb (q / 2048) 32)
      none q l (inr m) = ap (λ (t : Bool). t && holds_at col (q / 2048) (q % 2048)) (le-ltb (q / 2048) 32 m)
