-- The new slot of a tidy: the vector queried, and the slot's own 32 words among all.
use mathlib.Core.Path.{◌≡◌, sym, ap, ap₂, ◌∙◌}
use mathlib.Core.Bool.{Bool}
use mathlib.Core.List.{List}
use Prim.Native.Nat.{ℕ, ◌+◌, ◌-◌, ◌*◌}
use borrow.Rule.Slice.PartMut.{put_mid}
use lib.ListN.{length}
use Rattle.bits.specs.Bit.{xorb}
use Rattle.bits.specs.Part.{put_part}
use Rattle.bits.proofs.PartLaws.{part-back}
use Rattle.bits.specs.Vec.{vec}
use Rattle.bits.proofs.VecLaws.{length-vec, bit_at-vec, vec-ext, vec-bits}
use Rattle.bits.proofs.VecOps.{xor-vec}
use Rattle.bits.specs.Words.{bit_at, Words, xor_words}
use Rattle.tables.specs.Cells.{slot_words, end_at}
use Rattle.history.specs.declared.chain.Base.{Base}
use Rattle.history.specs.Version.{base_seen}
use Rattle.history.specs.Flips.{flipped_in}
use Rattle.history.specs.Query.{queried_at, queried_since}

-- ---- its part of the words

-- the words of a version with rows turned over, row by row
pub filled : (base mask d : List ℕ) → Words base → Words mask → length base ≡ 32 → length mask ≡ 32 → d ≡ xor_words base mask
    → d ≡ vec (λ r. xorb (bit_at base r) (bit_at mask r)) 32
filled base mask d w m b n q =
    q ∙ ap (xor_words base) (sym (vec-bits mask m) ∙ ap (vec (bit_at mask)) (n ∙ sym b)) ∙ xor-vec base (bit_at mask) w
    ∙ ap (vec (λ r. xorb (bit_at base r) (bit_at mask r))) b

-- ---- the vector

module _ (slots words heads log changes : List ℕ) (k s v : ℕ) where
  pub vector-written : (base : Base) (to : ℕ) (mask own ws d : List ℕ) → base ≡ base_seen slots heads log s v → to ≡ end_at log s
      → mask ≡ vec (flipped_in changes base.from to v) 32 → ws ≡ slot_words words base.slot → own ≡ ws
      → d ≡ vec (λ r. xorb (bit_at own r) (bit_at mask r)) 32
      → put_mid (32 * k) (32 * k + 32 - 32 * k) words d ≡ put_part (32 * k) (vec (queried_at slots words heads log changes s v) 32) words
  unfolding queried_at queried_since
  vector-written base to mask own ws d b t m o e x =
      let g : Base → ℕ → ℕ → Bool = λ y z r. xorb (bit_at (slot_words words y.slot) r) (flipped_in changes y.from z v r) in
      let seen = g (base_seen slots heads log s v) (end_at log s) in
      let z : d ≡ vec seen 32 =
      x
      ∙ vec-ext (λ r. xorb (bit_at own r) (bit_at mask r)) (g base to) 32
      (λ r l. ap₂ xorb (ap (λ (w : List ℕ). bit_at w r) (e ∙ o))
      (ap (λ (w : List ℕ). bit_at w r) m ∙ bit_at-vec (flipped_in changes base.from to v) 32 r l))
      ∙ ap₂ (λ (y : Base) (n : ℕ). vec (g y n) 32) b t in
      part-back (32 * k) 32 words d (vec seen 32) z (length-vec seen 32)
