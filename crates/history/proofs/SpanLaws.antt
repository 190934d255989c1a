-- A span step by step: the rows of one value merged, and the loop over the values.
use mathlib.Core.Path.{◌≡◌, sym, ap, ap₂, subst, ◌∙◌}
use mathlib.Core.Bool.{Bool, ◌||◌}
use mathlib.Core.List.{List}
use Prim.Native.Nat.{ℕ, suc, ◌+◌, ◌-◌, ◌≤◌, ◌<◌}
use native.Mathlib.Numerals.{add-one}
use native.Mathlib.Omega.{arith}
use lib.ListN.{length, replicate}
use Rattle.bits.specs.Any.{any_below, any_from}
use Rattle.bits.specs.Bit.{xorb}
use Rattle.bits.specs.Vec.{vec}
use Rattle.bits.proofs.VecLaws.{length-vec}
use Rattle.bits.proofs.VecOps.{merge-vec, merge-more, merge_none}
use Rattle.bits.specs.Words.{bit_at, Words, merged_words}
use Rattle.tables.specs.Cells.{slot_words, end_at}
use Rattle.history.specs.declared.chain.Base.{Base}
use Rattle.history.specs.Version.{base_seen}
use Rattle.history.specs.Flips.{flipped_in}
use Rattle.history.specs.Query.{queried_since, queried_at}
use Rattle.history.specs.Span.{spanned_at}

-- what is the vector of a function has its length
pub vec-long : (f : ℕ → Bool) (ws : List ℕ) → ws ≡ vec f 32 → length ws ≡ 32
vec-long f ws e = ap length e ∙ length-vec f 32

module _ (slots words heads log changes : List ℕ) (s : ℕ) where
  -- ---- what `add_value` knows at its end

  pub value-merged : (v : ℕ) (base : Base) (to : ℕ) (ws mask all d : List ℕ) → Words all → length all ≡ 32 → Words ws
      → base ≡ base_seen slots heads log s v → to ≡ end_at log s → mask ≡ vec (flipped_in changes base.from to v) 32
      → ws ≡ slot_words words base.slot → d ≡ merged_words all ws mask
      → d ≡ vec (λ r. bit_at all r || queried_at slots words heads log changes s v r) 32
  unfolding queried_at queried_since
  value-merged v base to ws mask all d h n w b t m x e =
      let g : Base → ℕ → ℕ → Bool =
      λ x y r. bit_at all r || xorb (bit_at (slot_words words x.slot) r) (flipped_in changes x.from y v r) in
      let y : Words (slot_words words base.slot) = subst Words x w in
      e ∙ ap₂ (merged_words all) x (m ∙ ap (vec (flipped_in changes base.from to v)) (sym n))
      ∙ merge-vec all (slot_words words base.slot) (flipped_in changes base.from to v) h y
      ∙ ap (vec (g base to)) n ∙ ap₂ (λ (z : Base) (y : ℕ). vec (g z y) 32) b t

  -- ---- the loop over the values: none yet, one more, all

  -- the rows that the query of one of the values from a on and below v shows
  abbrev some_of : ℕ → ℕ → ℕ → Bool
  some_of a v r = any_from (λ u. queried_at slots words heads log changes s u r) a v

  pub values-none : (a : ℕ) → replicate 32 0 ≡ vec (some_of a a) 32
  values-none a = merge_none (λ u r. queried_at slots words heads log changes s u r) a 32

  pub values-more : (a v : ℕ) (all d : List ℕ) → a ≤ v → all ≡ vec (some_of a v) 32
      → d ≡ vec (λ r. bit_at all r || queried_at slots words heads log changes s v r) 32 → d ≡ vec (some_of a (v + 1)) 32
  values-more a v all d h e p =
      p ∙ merge-more (λ u r. queried_at slots words heads log changes s u r) a v 32 all h e
      ∙ ap (λ (m : ℕ). vec (some_of a m) 32) (sym (add-one v))

  pub values-all : (a b v : ℕ) (all : List ℕ) → a ≤ v → b < v → v - (b + 1) ≤ a - (b + 1) → all ≡ vec (some_of a v) 32
      → all ≡ vec (spanned_at slots words heads log changes s a b) 32
  unfolding spanned_at any_from
  values-all a b v all h l k e =
      let z : v - a ≡ suc b - a = omega arith in
      e ∙ ap (λ (m : ℕ). vec (λ r. any_below (λ k. queried_at slots words heads log changes s (a + k) r) m) 32) z

  pub values-last : (a b v : ℕ) (all d : List ℕ) → a ≤ v → v ≤ b → b ≤ v → all ≡ vec (some_of a v) 32
      → d ≡ vec (λ r. bit_at all r || queried_at slots words heads log changes s v r) 32
      → d ≡ vec (spanned_at slots words heads log changes s a b) 32
  values-last a b v all d h l k e p = values-all a b (v + 1) d (omega arith) (omega arith) (omega arith) (values-more a v all d h e p)
