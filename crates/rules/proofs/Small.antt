-- Small laws on tests, on answers that may be missing, and on lists with one more at the end.
use mathlib.Core.Path.{◌≡◌, refl, sym, ◌∙◌}
use mathlib.Core.Bool.{Bool, true, false, ◌||◌, true≢false}
use mathlib.Core.Option.{Option, none, some}
use mathlib.Core.List.{List, [], ◌∷◌, ◌++◌}
use mathlib.Core.Logic.{◌⊎◌, inl, inr, ⊎_elim}
use Prim.Native.Nat.{ℕ, zero, suc, ◌≤◌}
use native.Mathlib.Omega.{arith}
use native.Mathlib.Numerals.{add-one}
use lib.ListN.{length, take, drop, get_or, set, replicate, length-append}
use lib.Seq.{take-length, drop-length}
use Rattle.bits.proofs.Cases.{eq-cases}
use Rattle.bits.specs.Bit.{xorb}
use Rattle.bits.specs.Choice.{or_else}

-- ---- tests

pub clash : {b : Bool} → b ≡ true → b ≡ false → ⊥
clash p q = true≢false (sym p ∙ q)

pub or_parts : (a b : Bool) → (a || b) ≡ false → (a ≡ false) × (b ≡ false)
or_parts true b e = absurd (true≢false e)
or_parts false b e = (refl, e)

pub xorb-false : (b : Bool) → xorb b false ≡ b
xorb-false true = refl
xorb-false false = refl

-- turned twice is not turned
pub turn-none : (b c : Bool) → b ≡ xorb b (xorb c c)
turn-none b true = sym (xorb-false b)
turn-none b false = sym (xorb-false b)

-- ---- answers that may be missing

pub option_cases : {A : Type 0} (o : Option A) → (o ≡ none) ⊎ ((a : A) × (o ≡ some a))
option_cases none = inl refl
option_cases (some a) = inr (a, refl)

pub or_else-assoc : {A : Type 0} (a b c : Option A) → or_else (or_else a b) c ≡ or_else a (or_else b c)
or_else-assoc none b c = refl
or_else-assoc (some x) b c = refl

-- ---- lists

pub length-snoc : {A : Type 0} (l : List A) (x : A) → length (l ++ (x ∷ [])) ≡ suc (length l)
length-snoc l x = rw length-append (add-one (length l))

pub take_snoc : {A : Type 0} (l : List A) (x : A) → take (suc (length l)) (l ++ (x ∷ [])) ≡ l ++ (x ∷ [])
take_snoc l x = rw (← (length-snoc l x)) (take-length (l ++ (x ∷ [])))

pub drop-snoc : {A : Type 0} (l : List A) (x : A) → drop (suc (length l)) (l ++ (x ∷ [])) ≡ []
drop-snoc l x = rw (← (length-snoc l x)) (drop-length (l ++ (x ∷ [])))

-- what holds at every k up to n, and at n + 1, holds at every k up to n + 1
pub up-to-next : {n m : ℕ} (P : ℕ → Type 0) → ((k : ℕ) → k ≤ n → P k) → P (suc n) → m ≡ suc n → (k : ℕ) → k ≤ m → P k
up-to-next {n} P old new q k l =
    ⊎_elim (λ (e : k ≡ suc n). rw e new) (λ (d : k ≡ suc n → ⊥). old k (omega arith)) (eq-cases k (suc n))

-- a place of a table of one thing, or past it
pub same-everywhere : {A : Type 0} (n : ℕ) (d : A) (i : ℕ) → get_or (replicate n d) i d ≡ d
same-everywhere zero d i = refl
same-everywhere (suc n) d zero = refl
same-everywhere (suc n) d (suc i) = same-everywhere n d i

-- two lists changed at one place
pub pair_set : {A B : Type 0} (R : A → B → Type 0) (d : A) (d' : B) (l : List A) (m : List B) → length l ≡ length m
    → ((j : ℕ) → R (get_or l j d) (get_or m j d')) → (i : ℕ) (x : A) (y : B) → R x y → (j : ℕ)
    → R (get_or (set l i x) j d) (get_or (set m i y) j d')
pair_set R d d' [] [] e h i x y r j = h j
pair_set R d d' [] (b ∷ m) e h i x y r j = absurd (omega arith)
pair_set R d d' (a ∷ l) [] e h i x y r j = absurd (omega arith)
pair_set R d d' (a ∷ l) (b ∷ m) e h zero x y r zero = r
pair_set R d d' (a ∷ l) (b ∷ m) e h zero x y r (suc j) = h (suc j)
pair_set R d d' (a ∷ l) (b ∷ m) e h (suc i) x y r zero = h zero
pair_set R d d' (a ∷ l) (b ∷ m) e h (suc i) x y r (suc j) = pair_set R d d' l m (omega arith) (λ k. h (suc k)) i x y r j
