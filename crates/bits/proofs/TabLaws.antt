-- The laws of the list of a function's values, and of lists that a loop fills from the front.
use mathlib.Core.Path.{◌≡◌, refl, sym, ap, ap₂, ◌∙◌, subst}
use mathlib.Core.List.{List, [], ◌∷◌, ◌++◌, append-nil}
use mathlib.Core.Logic.{⊎_elim}
use Prim.Native.Nat.{ℕ, zero, suc, ◌+◌, ◌-◌, ◌≤◌, ◌<◌, zero-le}
use native.Mathlib.Nat.{eq-or-lt_of_le, le_of_suc-le-suc, not-suc-le-zero, lt-suc_self, zero-add}
use native.Mathlib.Numerals.{add-one}
use native.Mathlib.Omega.{arith}
use lib.ListN.{length, get_or, set, drop, length-append, length-drop, length-set, get_or-append}
use lib.Seq.{sets, sets-eq, set_at, drop-cons, append_snoc, get_or-append_seam, get_or-append-add, get_or-drop, drop-length, ext_get_or}
use Rattle.bits.specs.Tab.{over, tab}

-- stored one after another
pub sets-append : (a b l : List ℕ) (i : ℕ) → sets l i (a ++ b) ≡ sets (sets l i a) (i + length a) b
sets-append [] b l i = let e : i + 0 ≡ i = omega arith in rw e
sets-append (x ∷ a) b l i = let e : i + suc (length a) ≡ suc i + length a = omega arith in rw e (sets-append a b (set l i x) (suc i))

-- stored one by one from the front
pub sets_over : (l d : List ℕ) → length l ≤ length d → sets d 0 l ≡ over l d
sets_over l d h = sets-eq l d 0 (omega arith) ∙ rw (zero-add (length l))

-- one more store
pub over-more : (l d : List ℕ) (v : ℕ) → length l < length d → set (over l d) (length l) v ≡ over (l ++ (v ∷ [])) d
over-more l d v h =
    ap (λ (t : List ℕ). set (l ++ t) (length l) v) (drop-cons d (length l) 0 h)
    ∙ set_at l (get_or d (length l) 0) (drop (suc (length l)) d) v (length l) refl
    ∙ sym (append_snoc l v (drop (suc (length l)) d))
    ∙ ap (λ (n : ℕ). (l ++ (v ∷ [])) ++ drop n d) (sym (length-append l (v ∷ []) ∙ add-one (length l)))

pub over-all : (l d : List ℕ) → length l ≡ length d → over l d ≡ l
over-all l d e = ap (λ (n : ℕ). l ++ drop n d) e ∙ ap (λ (t : List ℕ). l ++ t) (drop-length d) ∙ append-nil l

pub length_over : (l d : List ℕ) → length l ≤ length d → length (over l d) ≡ length d
length_over l d h = omega (arith, length-append l (drop (length l) d), length-drop (length l) d)

-- a place past those stored
pub over-past : (l d : List ℕ) (i : ℕ) → length l ≤ i → get_or (over l d) i 0 ≡ get_or d i 0
over-past l d i h =
    let e : length l + (i - length l) ≡ i = omega arith in
    ap (λ (k : ℕ). get_or (over l d) k 0) (sym e) ∙ get_or-append-add l (drop (length l) d) (i - length l) 0
    ∙ get_or-drop (length l) d (i - length l) 0 ∙ ap (λ (k : ℕ). get_or d k 0) e

module _ {A : Type 0} where
  pub length-tab : (g : ℕ → A) (n : ℕ) → length (tab g n) ≡ n
  unfolding tab
  length-tab g zero = refl
  length-tab g (suc n) = length-append (tab g n) (g n ∷ []) ∙ add-one (length (tab g n)) ∙ ap suc (length-tab g n)

  pub get_or-tab : (g : ℕ → A) (n i : ℕ) (d : A) → i < n → get_or (tab g n) i d ≡ g i
  unfolding tab
  get_or-tab g zero i d h = absurd (not-suc-le-zero h)
  get_or-tab g (suc n) i d h =
      ⊎_elim
      (λ e. ap (λ (k : ℕ). get_or (tab g n ++ (g n ∷ [])) k d) (e ∙ sym (length-tab g n)) ∙ get_or-append_seam (tab g n) (g n) [] d
      ∙ ap g (sym e))
      (λ l. get_or-append (tab g n) (g n ∷ []) d i (subst (λ (k : ℕ). i < k) (sym (length-tab g n)) l) ∙ get_or-tab g n i d l)
      (eq-or-lt_of_le (le_of_suc-le-suc h))

  pub tab-ext : (f g : ℕ → A) (n : ℕ) → ((k : ℕ) → k < n → f k ≡ g k) → tab f n ≡ tab g n
  unfolding tab
  tab-ext f g zero h = refl
  tab-ext f g (suc n) h = ap₂ (λ (l : List A) (x : A). l ++ (x ∷ [])) (tab-ext f g n (λ k l. h k (omega arith))) (h n (lt-suc_self n))

  pub tab-more : (g : ℕ → A) (n : ℕ) → tab g (n + 1) ≡ tab g n ++ (g n ∷ [])
  unfolding tab
  tab-more g n = ap (tab g) (add-one n)

  -- every list is the table of its own elements
  pub tab-self : (l : List A) (d : A) → tab (λ i. get_or l i d) (length l) ≡ l
  tab-self l d =
      ext_get_or d (tab (λ i. get_or l i d) (length l)) l (length-tab (λ i. get_or l i d) (length l))
      (λ i h. get_or-tab (λ k. get_or l k d) (length l) i d (subst (λ (n : ℕ). i < n) (length-tab (λ k. get_or l k d) (length l)) h))

  -- within the list the default does not matter
  pub get_d_any : (l : List A) (i : ℕ) (d e : A) → i < length l → get_or l i d ≡ get_or l i e
  get_d_any [] i d e h = absurd (not-suc-le-zero h)
  get_d_any (x ∷ l) zero d e h = refl
  get_d_any (x ∷ l) (suc i) d e h = get_d_any l i d e (le_of_suc-le-suc h)

-- ---- a loop that stores g i at i

module _ (g : ℕ → ℕ) where
  stored_more : (i : ℕ) (d : List ℕ) → i < length d → set (over (tab g i) d) i (g i) ≡ over (tab g (i + 1)) d
  unfolding tab
  stored_more i d h =
      ap (λ (k : ℕ). set (over (tab g i) d) k (g i)) (sym (length-tab g i))
      ∙ over-more (tab g i) d (g i) (subst (λ (k : ℕ). k < length d) (sym (length-tab g i)) h)
      ∙ ap (λ (n : ℕ). over (tab g n) d) (sym (add-one i))

-- a loop that stores g k at k, for k from 0 to the end: d₀ is what was there, d what is there at i
pub record Filled (g : ℕ → ℕ) (d₀ d : List ℕ) (i : ℕ) : Type 0 where
  pub within : i ≤ length d₀
  pub same : length d ≡ length d₀
  pub sofar : d ≡ over (tab g i) d₀

module _ (g : ℕ → ℕ) where
  pub filled_none : (d : List ℕ) → Filled g d d 0
  unfolding tab
  filled_none d = record { within = zero-le; same = refl; sofar = refl }

  pub filled_more : {d₀ d : List ℕ} {i v : ℕ} → Filled g d₀ d i → i < length d → v ≡ g i → Filled g d₀ (set d i v) (i + 1)
  filled_more {d₀} {d} {i} {v} f h e = record {
    within = omega (arith, f.same);
    same = length-set d i v ∙ f.same;
    sofar = ap₂ (λ (t : List ℕ) (x : ℕ). set t i x) f.sofar e ∙ stored_more g i d₀ (omega (arith, f.same));
  }

  -- what is still to be stored over stands as it was
  pub filled-ahead : {d₀ d : List ℕ} {i : ℕ} → Filled g d₀ d i → get_or d i 0 ≡ get_or d₀ i 0
  filled-ahead {d₀} {d} {i} f = ap (λ (t : List ℕ). get_or t i 0) f.sofar ∙ over-past (tab g i) d₀ i (omega (arith, length-tab g i))

  pub filled-all : {d₀ d : List ℕ} {i : ℕ} → Filled g d₀ d i → length d ≤ i → d ≡ tab g (length d₀)
  filled-all {d₀} {d} {i} f h =
      let e : i ≡ length d₀ = omega (arith, f.same, f.within) in
      f.sofar ∙ ap (λ (k : ℕ). over (tab g k) d₀) e ∙ over-all (tab g (length d₀)) d₀ (length-tab g (length d₀))
