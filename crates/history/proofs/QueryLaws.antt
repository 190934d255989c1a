-- A query step by step: the words of a slot, the mask, the flip count, and what is left in the scratch.
use mathlib.Core.Path.{◌≡◌, sym, ap, ap₂, ◌∙◌}
use mathlib.Core.Bool.{Bool}
use mathlib.Core.List.{List, ◌++◌}
use Prim.Native.Nat.{ℕ, ◌+◌, ◌-◌, ◌*◌, ◌≤◌, ◌<◌}
use native.Mathlib.Omega.{arith}
use borrow.Author.Tests.{ne_eqb}
use lib.ListN.{length, take, drop}
use Rattle.bits.specs.Bit.{xorb}
use Rattle.bits.specs.Part.{part}
use Rattle.bits.proofs.PartLaws.{part-lent}
use Rattle.bits.specs.Rows.{count_below, count_of}
use Rattle.bits.proofs.RowLaws.{count-le}
use Rattle.bits.specs.Tab.{over}
use Rattle.bits.specs.Vec.{vec}
use Rattle.bits.proofs.VecLaws.{length-vec, bit_at-vec, vec-ext, vec-bits}
use Rattle.bits.proofs.VecOps.{count_of-vec, xor-vec}
use Rattle.bits.specs.Words.{bit_at, Words, xor_words}
use Rattle.tables.specs.Cells.{slot_words, end_at}
use Rattle.tables.proofs.Slots.{length-slot_words, words-slot_words}
use Rattle.history.specs.declared.chain.Base.{Base}
use Rattle.history.specs.declared.query.Found.{Found}
use Rattle.history.specs.Version.{base_seen}
use Rattle.history.specs.Flips.{flipped_in}
use Rattle.history.specs.Query.{front_filled, queried_since, count_since, scratch_since, found_at, scratch_at}

-- ---- the words of a slot

module _ (words : List ℕ) (slot : ℕ) where
  pub slot-part : take (32 * slot + 32 - 32 * slot) (drop (32 * slot) words) ≡ slot_words words slot
  unfolding slot_words part
  slot-part = part-lent (32 * slot) 32 words

  -- the lengths that `turn_over` shows, and what it knows at its end
  module _ (ws : List ℕ) (e : ws ≡ slot_words words slot) (h : slot < 96) (l : 3072 ≤ length words) where
    pub slot-length : length ws ≡ 32
    slot-length = ap length e ∙ length-slot_words words slot h l

    pub turned : (scratch mask d : List ℕ) → Words words → Words mask → length mask ≡ 32 → d ≡ xor_words ws mask
        → d ++ drop 32 scratch ≡ front_filled (λ r. xorb (bit_at (slot_words words slot) r) (bit_at mask r)) scratch
    unfolding front_filled
    turned scratch mask d w m n q =
        let f : ℕ → Bool = λ r. xorb (bit_at (slot_words words slot) r) (bit_at mask r) in
        let c : length (slot_words words slot) ≡ 32 = length-slot_words words slot h l in
        let x : d ≡ vec f 32 =
        q ∙ ap₂ xor_words e (sym (vec-bits mask m) ∙ ap (vec (bit_at mask)) (n ∙ sym c)) ∙ xor-vec (slot_words words slot)
        (bit_at mask) (words-slot_words words slot w) ∙ ap (vec f) c in
        ap₂ (λ (y : List ℕ) (j : ℕ). y ++ drop j scratch) x (sym (length-vec f 32))

-- ---- the query

abbrev answer : ℕ → ℕ → Found
answer slot flips = record { slot = slot; flips = flips }

module _ (slots words heads log changes scratch : List ℕ) (s v : ℕ) where
  module _ (base : Base) (to n : ℕ) (mask : List ℕ) (b : base ≡ base_seen slots heads log s v) (t : to ≡ end_at log s)
      (m : mask ≡ vec (flipped_in changes base.from to v) 32) (c : n ≡ count_of mask) where
    count-is : n ≡ count_since (base_seen slots heads log s v) changes (end_at log s) v
    unfolding count_since
    count-is =
        c ∙ ap count_of m ∙ count_of-vec (flipped_in changes base.from to v) 32
        ∙ ap₂ (λ (x : Base) (y : ℕ). count_below (flipped_in changes x.from y v) 2048) b t

    pub count_low : n < 4294967296
    unfolding count_since
    count_low = omega (arith, count-is, count-le (flipped_in changes (base_seen slots heads log s v).from (end_at log s) v) 2048)

    pub own-found : n ≡ 0 → ◌≡◌ {A = Found} (record { slot = base.slot; flips = 0 }) (found_at slots heads log changes s v)
    unfolding found_at
    own-found z = ap₂ (λ (x : Base) (k : ℕ). answer x.slot k) b (sym z ∙ count-is)

    pub own-scratch : n ≡ 0 → scratch ≡ scratch_at slots words heads log changes scratch s v
    unfolding scratch_at scratch_since
    own-scratch z = rw (← count-is, z)

    pub turned-found : ◌≡◌ {A = Found} (record { slot = base.slot; flips = n }) (found_at slots heads log changes s v)
    unfolding found_at
    turned-found = ap₂ (λ (x : Base) (j : ℕ). answer x.slot j) b count-is

    pub turned-scratch : (n ≡ 0 → ⊥) → (d : List ℕ)
        → d ≡ front_filled (λ r. xorb (bit_at (slot_words words base.slot) r) (bit_at mask r)) scratch
        → d ≡ scratch_at slots words heads log changes scratch s v
    unfolding scratch_at scratch_since front_filled queried_since
    turned-scratch z d q =
        let g : Base → ℕ → ℕ → Bool = λ x y r. xorb (bit_at (slot_words words x.slot) r) (flipped_in changes x.from y v r) in
        let e : vec (λ r. xorb (bit_at (slot_words words base.slot) r) (bit_at mask r)) 32 ≡ vec
        (g (base_seen slots heads log s v) (end_at log s)) 32 =
        vec-ext (λ r. xorb (bit_at (slot_words words base.slot) r) (bit_at mask r)) (g base to) 32
        (λ r l. ap (xorb (bit_at (slot_words words base.slot) r))
        (ap (λ (w : List ℕ). bit_at w r) m ∙ bit_at-vec (flipped_in changes base.from to v) 32 r l))
        ∙ ap₂ (λ (x : Base) (y : ℕ). vec (g x y) 32) b t in
        q ∙ ap (λ (w : List ℕ). over w scratch) e ∙ sym (rw (← count-is, ne_eqb n 0 z))
