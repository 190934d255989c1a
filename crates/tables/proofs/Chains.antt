-- The versions along the links: one slot after another, whatever the bound on their number, and the newest of a value.
use mathlib.Core.Path.{◌≡◌, refl, sym, ap, ap₂, ◌∙◌}
use mathlib.Core.Bool.{Bool, true, cond}
use mathlib.Core.List.{List, [], ◌∷◌}
use mathlib.Core.Logic.{◌⊎◌, inl, inr}
use Prim.Native.Nat.{ℕ, zero, suc, ◌+◌, ◌-◌, ◌≤◌, ◌<◌}
use native.Mathlib.Nat.{pos_of_ne-zero}
use native.Mathlib.Numerals.{add-one}
use native.Mathlib.Omega.{arith}
use borrow.Author.Tests.{eq-eqb, ne_eqb}
use Rattle.bits.proofs.Cases.{eq-cases}
use Rattle.bits.specs.Words.{bit_at}
use Rattle.rules.specs.State.{Version, Chain}
use Rattle.rules.specs.Versions.{newest}
use Rattle.tables.specs.Cells.{slots_in, slot_stamp, slot_link, slot_words, head_of}
use Rattle.tables.specs.Meaning.{version_at, chain_from, chain_at}
use Rattle.tables.specs.Damage.{slots_fit}
use Rattle.tables.proofs.Slots.{link-falls, link-used}

module _ (slots words : List ℕ) where
  pub version-stamp : (i : ℕ) → (version_at slots words i).stamp ≡ slot_stamp slots i
  unfolding version_at
  version-stamp i = refl

  pub version-vector : (i : ℕ) → (version_at slots words i).vector ≡ bit_at (slot_words words i)
  unfolding version_at
  version-vector i = refl

  pub chain-none : (i : ℕ) → chain_from slots words zero i ≡ []
  unfolding chain_from
  chain-none i = refl

  -- a slot without a link is the last
  pub chain-end : (n i : ℕ) → slot_link slots i ≡ 0 → chain_from slots words (suc n) i ≡ version_at slots words i ∷ []
  unfolding chain_from
  chain-end n i e =
      ap (λ (b : Bool). version_at slots words i ∷ cond b [] (chain_from slots words n (slot_link slots i - 1)))
      (eq-eqb (slot_link slots i) 0 e)

  -- any other is followed by the one that it links to
  pub chain-on : (n i : ℕ) → 0 < slot_link slots i
      → chain_from slots words (suc n) i ≡ version_at slots words i ∷ chain_from slots words n (slot_link slots i - 1)
  unfolding chain_from
  chain-on n i h =
      ap (λ (b : Bool). version_at slots words i ∷ cond b [] (chain_from slots words n (slot_link slots i - 1)))
      (ne_eqb (slot_link slots i) 0 (λ e. omega arith))

-- two tables of slots that agree below `used`, with links that fall, have the same chains there, whatever the bounds above the
-- slot's number
pub chain_same : (used : ℕ) (slots words slots' words' : List ℕ) → ((i : ℕ) → i < used → slot_link slots i ≤ i)
    → ((i : ℕ) → i < used → slot_link slots' i ≡ slot_link slots i)
    → ((i : ℕ) → i < used → version_at slots' words' i ≡ version_at slots words i)
    → (n m i : ℕ) → i < used → i < n → i < m → chain_from slots' words' n i ≡ chain_from slots words m i
chain_same used slots words slots' words' falls links same zero m i l p q = absurd (omega arith)
chain_same used slots words slots' words' falls links same (suc n) zero i l p q = absurd (omega arith)
chain_same used slots words slots' words' falls links same (suc n) (suc m) i l p q =
    go (eq-cases (slot_link slots i) 0)
    (λ h. chain_same used slots words slots' words' falls links same n m (slot_link slots i - 1)
    (omega (arith, falls i l)) (omega (arith, falls i l)) (omega (arith, falls i l)))
  where
    go : (slot_link slots i ≡ 0) ⊎ (slot_link slots i ≡ 0 → ⊥)
        → (0 < slot_link slots i → chain_from slots' words' n (slot_link slots i - 1) ≡ chain_from slots words m (slot_link slots i - 1))
        → chain_from slots' words' (suc n) i ≡ chain_from slots words (suc m) i
    go (inl e) ih =
        chain-end slots' words' n i (links i l ∙ e) ∙ ap (λ (x : Version). x ∷ []) (same i l) ∙ sym (chain-end slots words m i e)
    go (inr d) ih =
        let h : 0 < slot_link slots i = pos_of_ne-zero d in
        let k : 0 < slot_link slots' i = omega (arith, links i l) in
        chain-on slots' words' n i k
        ∙ ap₂ (λ (x : Version) (j : ℕ). x ∷ chain_from slots' words' n (j - 1)) (same i l) (links i l)
        ∙ ap (λ (ch : Chain). version_at slots words i ∷ ch) (ih h)
        ∙ sym (chain-on slots words m i h)

-- the chain from slot i on, by the slot that it links to
module _ (c slots words : List ℕ) (e : slots_fit c slots ≡ true) where
  pub chain-bound : (n m i : ℕ) → i < slots_in c → i < n → i < m → chain_from slots words n i ≡ chain_from slots words m i
  chain-bound = chain_same (slots_in c) slots words slots words (λ i l. link-falls c slots e i l) (λ i l. refl) (λ i l. refl)

  pub chain-last : (i : ℕ) → slot_link slots i ≡ 0 → chain_from slots words (i + 1) i ≡ version_at slots words i ∷ []
  chain-last i h = ap (λ (n : ℕ). chain_from slots words n i) (add-one i) ∙ chain-end slots words i i h

  pub chain_next : (i : ℕ) → i < slots_in c → 0 < slot_link slots i
      → chain_from slots words (i + 1) i ≡ version_at slots words i ∷ chain_from slots words (slot_link slots i - 1 + 1) (slot_link slots i - 1)
  chain_next i l h =
      ap (λ (n : ℕ). chain_from slots words n i) (add-one i) ∙ chain-on slots words i i h
      ∙ ap (λ (ch : Chain). version_at slots words i ∷ ch)
      (chain-bound i (slot_link slots i - 1 + 1) (slot_link slots i - 1) (link-used c slots e i l h)
      (omega (arith, link-falls c slots e i l)) (omega arith))

-- "A head per value names its newest slot."
pub newest-means : (slots words heads : List ℕ) (v : ℕ) → newest (chain_at slots words heads v) ≡ version_at slots words (head_of heads v)
unfolding chain_at chain_from
newest-means slots words heads v = ap (λ (n : ℕ). newest (chain_from slots words n (head_of heads v))) (add-one (head_of heads v))

pub newest-stamp : (slots words heads : List ℕ) (v : ℕ) → (newest (chain_at slots words heads v)).stamp ≡ slot_stamp slots (head_of heads v)
newest-stamp slots words heads v =
    ap (λ (x : Version). x.stamp) (newest-means slots words heads v) ∙ version-stamp slots words (head_of heads v)
