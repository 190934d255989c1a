-- Bytes that a watch sees go by: piece after piece, and why watches on every place tell which bytes they were.
use mathlib.Core.Path.{◌≡◌, refl, sym, ap, ◌∙◌}
use mathlib.Core.List.{List, [], ◌∷◌, ◌++◌}
use Prim.Native.Nat.{ℕ, zero, suc, ◌-◌, ◌<◌, ◌≤◌}
use native.Mathlib.Omega.{arith}
use lib.ListN.{length, take, get_or}
use Rattle.ends.specs.declared.watch.Watch.{Watch}
use Rattle.ends.specs.declared.watch.Watch.TheVariants.{Until, Seen}
use Rattle.ends.specs.Watch.{fresh, watched_one, watched}

pub watched-append : (w : Watch) (xs ys : List ℕ) → watched w (xs ++ ys) ≡ watched (watched w xs) ys
unfolding watched
watched-append w [] ys = refl
watched-append w (b ∷ xs) ys = watched-append (watched_one w b) xs ys

-- ---- a piece

watched-seen : (s : ℕ) (bs : List ℕ) → watched (Seen s) bs ≡ Seen s
unfolding watched watched_one
watched-seen s [] = refl
watched-seen s (b ∷ bs) = watched-seen s bs

pub watched-here : (u : ℕ) (bs : List ℕ) → u < length bs → watched (Until u) bs ≡ Seen (get_or bs u 0)
unfolding watched watched_one
watched-here u [] h = absurd (omega arith)
watched-here zero (b ∷ bs) h = watched-seen b bs
watched-here (suc u) (b ∷ bs) h = watched-here u bs (omega arith)

pub watched-beyond : (u : ℕ) (bs : List ℕ) → length bs ≤ u → watched (Until u) bs ≡ Until (u - length bs)
unfolding watched watched_one
watched-beyond u [] h = ap Until (omega arith)
watched-beyond zero (b ∷ bs) h = absurd (omega arith)
watched-beyond (suc u) (b ∷ bs) h = watched-beyond u bs (omega arith) ∙ ap Until (omega arith)

module _ (w : Watch) (bs : List ℕ) where
  pub pass-seen : (s : ℕ) → w ≡ Seen s → w ≡ watched w bs
  pass-seen s e = rw e (sym (watched-seen s bs))

  module _ (u : ℕ) (e : w ≡ Until u) where
    pub pass-here : (b : ℕ) → u < length bs → b ≡ get_or bs u 0 → Seen b ≡ watched w bs
    pass-here b h p = rw (e, p) (sym (watched-here u bs h))

    pub pass-beyond : length bs ≤ u → Until (u - length bs) ≡ watched w bs
    pass-beyond h = rw e (sym (watched-beyond u bs h))

-- a watch on a byte to come is none on a byte that is past
to-come : (y : ℕ) (ys : List ℕ) → Until 0 ≡ watched (Seen y) ys → ⊥
to-come y ys e = let s : Until 0 ≡ Seen y = e ∙ watched-seen y ys in cc

-- ---- bytes that no watch on one of m places tells apart are the same, as far as these places go

pub same_bytes : (m : ℕ) (xs ys : List ℕ) → ((i : ℕ) → i < m → watched (fresh i) xs ≡ watched (fresh i) ys) → take m xs ≡ take m ys
unfolding watched watched_one fresh
same_bytes zero xs ys h = refl
same_bytes (suc m) [] [] h = refl
same_bytes (suc m) [] (y ∷ ys) h = absurd (to-come y ys (h 0 (omega arith)))
same_bytes (suc m) (x ∷ xs) [] h = absurd (to-come x xs (sym (h 0 (omega arith))))
same_bytes (suc m) (x ∷ xs) (y ∷ ys) h =
    let s : Seen x ≡ Seen y = sym (watched-seen x xs) ∙ h 0 (omega arith) ∙ watched-seen y ys in
    let k : take m xs ≡ take m ys = same_bytes m xs ys (λ i l. h (suc i) (omega arith)) in
    let e : x ≡ y = cc in
    rw (e, k)
