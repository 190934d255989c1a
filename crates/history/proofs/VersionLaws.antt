-- The version search, one step at a time; its slot is at most the one it starts from, and in undamaged tables it is the rules' version.
use mathlib.Core.Path.{◌≡◌, refl, sym, ap, ◌∙◌}
use mathlib.Core.Bool.{Bool, true, false, cond}
use mathlib.Core.List.{List, []}
use Prim.Native.Nat.{ℕ, zero, suc, ◌-◌, ◌≤◌, ◌<◌}
use native.Mathlib.Nat.{pos_of_ne-zero}
use native.Mathlib.Numerals.{add-one}
use native.Mathlib.Omega.{arith}
use borrow.Author.Tests.{ltb-true, ltb-false, leb-false, eqb-true, eqb-false, eq-eqb, ne_eqb, le-leb, lt-leb, lt-ltb, le-ltb}
use Rattle.std.specs.Prelude.{Option, Some, None}
use lib.Dec.{leb, ltb, eqb}
use Rattle.rules.specs.Versions.{version_at}
use Rattle.tables.specs.Cells.{slots_in, slot_stamp, slot_link, link_of, head_of, end_at}
use Rattle.tables.specs.Damage.{slots_fit}
use Rattle.tables.specs.Meaning as cells
use Rattle.tables.specs.Meaning.{chain_from, chain_at}
use Rattle.tables.proofs.Slots.{link-falls, link-used, unlinked-old}
use Rattle.history.specs.declared.chain.Base.{Base}
use Rattle.history.specs.Version.{version_step, version_from, version_slot, slot_seen, base_seen, Headed}

-- ---- one step at a time

module _ (slots : List ℕ) (s : ℕ) where
  same_rest : (f g : ℕ → ℕ) (i : ℕ) → ((j : ℕ) → j < i → f j ≡ g j) → version_step slots s f i ≡ version_step slots s g i
  unfolding version_step
  same_rest f g i h = go (leb (slot_stamp slots i) s) (eqb (slot_link slots i) 0) (ltb i (slot_link slots i)) refl refl
    where
      go : (a b c : Bool) → eqb (slot_link slots i) 0 ≡ b → ltb i (slot_link slots i) ≡ c
          → cond a i (cond b i (cond c i (f (slot_link slots i - 1)))) ≡ cond a i (cond b i (cond c i (g (slot_link slots i - 1))))
      go true b c p q = refl
      go false true c p q = refl
      go false false true p q = refl
      go false false false p q =
          h (slot_link slots i - 1) (omega (arith, pos_of_ne-zero (eqb-false (slot_link slots i) 0 p), ltb-false i (slot_link slots i) q))

  enough : (m n i : ℕ) → i < m → i < n → version_from slots s m i ≡ version_from slots s n i
  unfolding version_from
  enough zero n i h l = absurd (omega arith)
  enough (suc m) zero i h l = absurd (omega arith)
  enough (suc m) (suc n) i h l = same_rest (λ j. version_from slots s m j) (λ j. version_from slots s n j) i
      (λ j k. enough m n j (omega arith) (omega arith))

  version-step : (i : ℕ) → version_slot slots s i ≡ version_step slots s (λ j. version_slot slots s j) i
  unfolding version_slot version_from
  version-step i = same_rest (λ j. version_from slots s i j) (λ j. version_from slots s (suc j) j) i
      (λ j k. enough i (suc j) j k (omega arith))

  -- what the search meets: a stamp that is low enough, no link, a link that does not fall, the slot before
  module _ (i b : ℕ) (e : b ≡ slot_stamp slots i) where
    pub version-here : b ≤ s → i ≡ version_slot slots s i
    unfolding version_step
    version-here h = sym (version-step i ∙ rw (le-leb (slot_stamp slots i) s (omega arith)))

    module _ (h : s < b) where
      high : leb (slot_stamp slots i) s ≡ false
      high = lt-leb (slot_stamp slots i) s (omega arith)

      pub version-first : (o : Option ℕ) → o ≡ None → link_of o ≡ slot_link slots i → i ≡ version_slot slots s i
      unfolding version_step
      version-first o n l = sym (version-step i ∙ rw (high, eq-eqb (slot_link slots i) 0 (sym (rw n at l))))

      module _ (o : Option ℕ) (before : ℕ) (o-is : o ≡ Some before) (l-is : link_of o ≡ slot_link slots i) where
        q : suc before ≡ slot_link slots i
        q = ap link_of (sym o-is) ∙ l-is

        linked : eqb (slot_link slots i) 0 ≡ false
        linked = ne_eqb (slot_link slots i) 0 (λ z. omega (arith, q))

        pub version-stuck : i ≤ before → i ≡ version_slot slots s i
        unfolding version_step
        version-stuck l = sym (version-step i ∙ rw (high, linked, lt-ltb i (slot_link slots i) (omega (arith, q))))

        pub version-past : (r : ℕ) → before < i → r ≡ version_slot slots s before → r ≡ version_slot slots s i
        unfolding version_step
        version-past r l p =
            let z : slot_link slots i - 1 ≡ before = omega (arith, q) in
            p ∙ sym (version-step i ∙ rw (high, linked, le-ltb i (slot_link slots i) (omega (arith, q)), z))

-- ---- where it ends

from_le : (slots : List ℕ) (s n i : ℕ) → version_from slots s n i ≤ i
unfolding version_from version_step
from_le slots s zero i = omega arith
from_le slots s (suc n) i =
    go (leb (slot_stamp slots i) s) (eqb (slot_link slots i) 0) (ltb i (slot_link slots i)) refl (from_le slots s n (slot_link slots i - 1))
  where
    go : (a b c : Bool) → ltb i (slot_link slots i) ≡ c → version_from slots s n (slot_link slots i - 1) ≤ slot_link slots i - 1
        → cond a i (cond b i (cond c i (version_from slots s n (slot_link slots i - 1)))) ≤ i
    go true b c e h = omega arith
    go false true c e h = omega arith
    go false false true e h = omega arith
    go false false false e h = omega (arith, ltb-false i (slot_link slots i) e)

pub version-le : (slots : List ℕ) (s i : ℕ) → version_slot slots s i ≤ i
unfolding version_slot
version-le slots s i = from_le slots s (suc i) i

pub seen-le : (slots heads : List ℕ) (s v : ℕ) → slot_seen slots heads s v ≤ head_of heads v
unfolding slot_seen
seen-le slots heads s v = version-le slots s (head_of heads v)

-- ---- in undamaged tables it is the rules' version

module _ (c slots words : List ℕ) (s : ℕ) (e : slots_fit c slots ≡ true) where
  from-chain : (n i : ℕ) → i < slots_in c → i < n
      → version_at (chain_from slots words n i) s ≡ cells.version_at slots words (version_from slots s n i)
  unfolding version_at chain_from version_from version_step cells.version_at
  from-chain zero i l m = absurd (omega arith)
  from-chain (suc n) i l m =
      go (leb (slot_stamp slots i) s) refl (eqb (slot_link slots i) 0) refl (ltb i (slot_link slots i)) refl (λ j p q. from-chain n j p q)
    where
      go : (a : Bool) → leb (slot_stamp slots i) s ≡ a → (b : Bool) → eqb (slot_link slots i) 0 ≡ b → (d : Bool)
          → ltb i (slot_link slots i) ≡ d
          → ((j : ℕ) → j < slots_in c → j < n
          → version_at (chain_from slots words n j) s ≡ cells.version_at slots words (version_from slots s n j))
          → cond a (cells.version_at slots words i) (version_at (cond b [] (chain_from slots words n (slot_link slots i - 1))) s)
          ≡ cells.version_at slots words (cond a i (cond b i (cond d i (version_from slots s n (slot_link slots i - 1)))))
      go true p b q d r ih = refl
      go false p true q d r ih =
          absurd (omega (arith, leb-false (slot_stamp slots i) s p, unlinked-old c slots e i l (eqb-true (slot_link slots i) 0 q)))
      go false p false q true r ih = absurd (omega (arith, ltb-true i (slot_link slots i) r, link-falls c slots e i l))
      go false p false q false r ih =
          let o : 0 < slot_link slots i = pos_of_ne-zero (eqb-false (slot_link slots i) 0 q) in
          ih (slot_link slots i - 1) (link-used c slots e i l o) (omega (arith, link-falls c slots e i l))

  pub seen-version : (heads : List ℕ) (v : ℕ) → head_of heads v < slots_in c
      → version_at (chain_at slots words heads v) s ≡ cells.version_at slots words (slot_seen slots heads s v)
  unfolding chain_at slot_seen version_slot
  seen-version heads v l =
      ap (λ (n : ℕ). version_at (chain_from slots words n (head_of heads v)) s) (add-one (head_of heads v))
      ∙ from-chain (suc (head_of heads v)) (head_of heads v) l (omega arith)

-- ---- what the code knows at its locals

module _ (slots heads : List ℕ) (s v : ℕ) where
  pub seen-is : (h r : ℕ) → h ≡ head_of heads v → r ≡ version_slot slots s h → r ≡ slot_seen slots heads s v
  unfolding slot_seen
  seen-is h r e q = q ∙ ap (version_slot slots s) e

  pub seen_low : (h r : ℕ) → Headed slots heads v → h ≡ head_of heads v → r ≡ version_slot slots s h → r < 96
  seen_low h r f e q = omega (arith, version-le slots s h, f.head-low)

  module _ (log : List ℕ) (i b : ℕ) (e : i ≡ slot_seen slots heads s v) (q : b ≡ slot_stamp slots i) where
    pub base-is : (from : ℕ) → from ≡ end_at log b → ◌≡◌ {A = Base} (record { slot = i; from = from }) (base_seen slots heads log s v)
    unfolding base_seen
    base-is from p = rw (p, q, e)
