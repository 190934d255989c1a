-- Cells gathered into one set, their first half and their second at once: it is below 2 ^ c exactly if each cell is.
use mathlib.Core.Path.{◌≡◌, sym, ap, ◌∙◌}
use mathlib.Core.Bool.{Bool, true}
use mathlib.Core.List.{List}
use mathlib.Core.Logic.{◌⊎◌, inl, inr}
use Prim.Native.Nat.{ℕ, ◌+◌, ◌-◌, ◌/◌, ◌^◌, ◌≤◌, ◌<◌}
use native.Mathlib.Omega.{arith}
use lib.Bits.{bit_or, or_add_and, and_le_r, and_le_l, or_lt}
use lib.Dec.{eqb, ltb}
use lib.ListN.{get_or}
use Rattle.bits.specs.All.{all_below}
use Rattle.bits.proofs.AllLaws.{all-at, all_of, all-ext}
use Rattle.bits.specs.OrWords.{or_below}
use Rattle.bits.proofs.OrLaws.{or-zero, or-more, or-clear}
use Rattle.bits.proofs.Cases.{same_truth, lt-cases}
use Rattle.bits.specs.Sets.{set_below}
use Rattle.bits.proofs.SetLaws.{below-shr, below-lt, lt-below}
use Rattle.tables.specs.Damage.{all_in}
use Rattle.change_damage.specs.Parts.{Gathered, row_below}

-- the OR of numbers is below 2 ^ c exactly if each is
or-below : (g : ℕ → ℕ) (n c : ℕ) → set_below (or_below g n) c ≡ all_below (λ p. set_below (g p) c) n
or-below g n c = sym (below-shr (or_below g n) c) ∙ or-clear g n c
    ∙ all-ext (λ p. eqb (g p / 2 ^ c) 0) (λ p. set_below (g p) c) n (λ p l. below-shr (g p) c)

or_left : (a b c : ℕ) → set_below (bit_or a b) c ≡ true → set_below a c ≡ true
or_left a b c e = lt-below a c (omega (arith, or_add_and a b, and_le_r a b, below-lt (bit_or a b) c e))

or_right : (a b c : ℕ) → set_below (bit_or a b) c ≡ true → set_below b c ≡ true
or_right a b c e = lt-below b c (omega (arith, or_add_and a b, and_le_l a b, below-lt (bit_or a b) c e))

or-both : (a b c : ℕ) → set_below a c ≡ true → set_below b c ≡ true → set_below (bit_or a b) c ≡ true
or-both a b c d e = lt-below (bit_or a b) c (or_lt c a b (below-lt a c d) (below-lt b c e))

-- a cell of the first half with that of the second
abbrev pub pair_at : List ℕ → ℕ → ℕ → ℕ → ℕ
pair_at cells from other p = bit_or (get_or cells (from + p) 0) (get_or cells (other + p) 0)

pub pairs-none : (cells : List ℕ) (from other : ℕ) → 0 ≡ or_below (pair_at cells from other) 0
pairs-none cells from other = or-zero (pair_at cells from other)

pub pairs-more : (cells : List ℕ) (from other p all : ℕ) → all ≡ or_below (pair_at cells from other) p
    → bit_or all (bit_or (get_or cells (from + p) 0) (get_or cells (other + p) 0)) ≡ or_below (pair_at cells from other) (p + 1)
pairs-more cells from other p all e = or-more (pair_at cells from other) p all e

module _ (cells : List ℕ) (from n half other p all : ℕ) (h : half ≡ (n + 1) / 2) (o : other ≡ from + n / 2)
    (e : all ≡ or_below (pair_at cells from other) p) (l : p ≤ half) (m : half ≤ p) where
  abbrev low : ℕ → ℕ → Bool
  low c k = set_below (get_or cells (from + k) 0) c

  abbrev pair_low : ℕ → ℕ → Bool
  pair_low c k = set_below (pair_at cells from other k) c

  all-low : (c : ℕ) → set_below all c ≡ all_below (pair_low c) half
  all-low c = let z : p ≡ half = omega arith in ap (λ (x : ℕ). set_below x c) e ∙ or-below (pair_at cells from other) p c
      ∙ ap (all_below (pair_low c)) z

  -- every cell lies in one of the halves
  cell-low : (c : ℕ) → all_below (pair_low c) half ≡ true → (k : ℕ) → k < n → (k < half) ⊎ (half ≤ k) → low c k ≡ true
  cell-low c t k b (inl i) = or_left (get_or cells (from + k) 0) (get_or cells (other + k) 0) c (all-at (pair_low c) half t k i)
  cell-low c t k b (inr i) =
      let q : other + (k - n / 2) ≡ from + k = omega arith in
      ap (λ (x : ℕ). set_below (get_or cells x 0) c) (sym q)
      ∙ or_right (get_or cells (from + (k - n / 2)) 0) (get_or cells (other + (k - n / 2)) 0) c (all-at (pair_low c) half t (k - n / 2)
      (omega arith))

  pair-low : (c : ℕ) → all_below (low c) n ≡ true → (k : ℕ) → k < half → pair_low c k ≡ true
  pair-low c t k b =
      let q : from + (n / 2 + k) ≡ other + k = omega arith in
      or-both (get_or cells (from + k) 0) (get_or cells (other + k) 0) c (all-at (low c) n t k (omega arith))
      (ap (λ (x : ℕ). set_below (get_or cells x 0) c) (sym q) ∙ all-at (low c) n t (n / 2 + k) (omega arith))

  pub all-gathered : Gathered cells from n all
  unfolding Gathered
  all-gathered c =
      all-low c
      ∙ same_truth (all_below (pair_low c) half) (all_below (low c) n) (λ t. all_of (low c) n (λ k b. cell-low c t k b (lt-cases k half)))
      (λ t. all_of (pair_low c) half (pair-low c t))

-- rows are below 2,048 exactly if their bits together are
pub rows-gathered : (changes : List ℕ) (from to rows n all : ℕ) → from ≤ to → rows ≡ 2048 → n ≡ to - from → Gathered changes from n all
    → ltb all 2048 ≡ all_in (row_below changes rows) from to
unfolding Gathered all_in row_below set_below
rows-gathered changes from to rows n all h e q g =
    g 11 ∙ ap (all_below (λ k. ltb (get_or changes (from + k) 0) 2048)) q
    ∙ ap (λ (x : ℕ). all_below (λ k. ltb (get_or changes (from + k) 0) x) (to - from)) (sym e)
