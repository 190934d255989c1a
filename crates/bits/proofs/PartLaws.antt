-- The laws of a part of a longer list, and of the list with another part in its place.
use mathlib.Core.Path.{◌≡◌, sym, ap, ap₂, ◌∙◌}
use mathlib.Core.List.{List, ◌++◌}
use mathlib.Core.Logic.{◌⊎◌, ⊎_elim}
use Prim.Native.Nat.{ℕ, ◌+◌, ◌-◌, ◌≤◌, ◌<◌}
use native.Mathlib.Nat.{add-sub_cancel_left}
use native.Mathlib.Omega.{arith}
use borrow.Rule.Slice.PartMut.{put_mid, Post-is}
use lib.ListN.{length, get_or, take, drop, length-append, length-drop, get_or-append}
use lib.Seq.{length-take-le, get_or-take, get_or-drop, get_or-append-add, ext_get_or}
use Rattle.bits.specs.Part.{part, put_part}

module _ (a n : ℕ) (xs : List ℕ) where
  pub length_part : a + n ≤ length xs → length (part a n xs) ≡ n
  unfolding part
  length_part h = length-take-le n (drop a xs) (omega (arith, length-drop a xs))

  pub get_d_part : (i d : ℕ) → i < n → get_or (part a n xs) i d ≡ get_or xs (a + i) d
  unfolding part
  get_d_part i d h = get_or-take n (drop a xs) i d h ∙ get_or-drop a xs i d

  -- what a call is lent as the part from a to a + n
  pub part-lent : take (a + n - a) (drop a xs) ≡ part a n xs
  unfolding part
  part-lent = ap (λ (k : ℕ). take k (drop a xs)) (add-sub_cancel_left a n)

  -- what a call that was lent that part left there, said of the whole
  pub part-back : (ys zs : List ℕ) → ys ≡ zs → length zs ≡ n → put_mid a (a + n - a) xs ys ≡ put_part a zs xs
  unfolding put_part
  part-back ys zs e l =
      ap₂ (λ (y t : List ℕ). take a xs ++ (y ++ t)) e
      (Post-is a (a + n) xs (omega arith) ∙ ap (λ (k : ℕ). drop (a + k) xs) (sym l))

module _ (a : ℕ) (ys xs : List ℕ) (fits : a + length ys ≤ length xs) where
  pub length-put_part : length (put_part a ys xs) ≡ length xs
  unfolding put_part
  length-put_part =
      omega (
        arith,
        length-append (take a xs) (ys ++ drop (a + length ys) xs),
        length-append ys (drop (a + length ys) xs),
        length-take-le a xs (omega arith),
        length-drop (a + length ys) xs,
      )

  -- before the part, in it, and after it
  pub get_or-before : (i d : ℕ) → i < a → get_or (put_part a ys xs) i d ≡ get_or xs i d
  unfolding put_part
  get_or-before i d h =
      get_or-append (take a xs) (ys ++ drop (a + length ys) xs) d i (omega (arith, length-take-le a xs (omega arith)))
      ∙ get_or-take a xs i d h

  shifted : (i d : ℕ) → get_or (put_part a ys xs) (a + i) d ≡ get_or (ys ++ drop (a + length ys) xs) i d
  unfolding put_part
  shifted i d =
      ap (λ (k : ℕ). get_or (take a xs ++ (ys ++ drop (a + length ys) xs)) (k + i) d) (sym (length-take-le a xs (omega arith)))
      ∙ get_or-append-add (take a xs) (ys ++ drop (a + length ys) xs) i d

  pub get_or-within : (i d : ℕ) → i < length ys → get_or (put_part a ys xs) (a + i) d ≡ get_or ys i d
  get_or-within i d h = shifted i d ∙ get_or-append ys (drop (a + length ys) xs) d i h

  pub get_d_after : (i d : ℕ) → a + length ys ≤ i → get_or (put_part a ys xs) i d ≡ get_or xs i d
  get_d_after i d h =
      let e : a + (length ys + (i - (a + length ys))) ≡ i = omega arith in
      let f : a + length ys + (i - (a + length ys)) ≡ i = omega arith in
      ap (λ (k : ℕ). get_or (put_part a ys xs) k d) (sym e) ∙ shifted (length ys + (i - (a + length ys))) d
      ∙ get_or-append-add ys (drop (a + length ys) xs) (i - (a + length ys)) d ∙ get_or-drop (a + length ys) xs (i - (a + length ys)) d
      ∙ ap (λ (k : ℕ). get_or xs k d) f

  -- the part is what was put there
  pub part_same : part a (length ys) (put_part a ys xs) ≡ ys
  part_same =
      let l : length (part a (length ys) (put_part a ys xs)) ≡ length ys = length_part a (length ys) (put_part a ys xs)
      (omega (arith, length-put_part)) in
      ext_get_or 0 (part a (length ys) (put_part a ys xs)) ys l
      (λ i h. get_d_part a (length ys) (put_part a ys xs) i 0 (omega arith) ∙ get_or-within i 0 (omega arith))

  -- a part that lies before it or after it stays
  pub part-other : (b n : ℕ) → (b + n ≤ a) ⊎ (a + length ys ≤ b) → b + n ≤ length xs → part b n (put_part a ys xs) ≡ part b n xs
  part-other b n s h =
      let l : length (part b n (put_part a ys xs)) ≡ n = length_part b n (put_part a ys xs) (omega (arith, length-put_part)) in
      ext_get_or 0 (part b n (put_part a ys xs)) (part b n xs) (l ∙ sym (length_part b n xs h))
      (λ i m. get_d_part b n (put_part a ys xs) i 0 (omega arith)
      ∙ ⊎_elim (λ (p : b + n ≤ a). get_or-before (b + i) 0 (omega arith)) (λ (p : a + length ys ≤ b). get_d_after (b + i) 0 (omega arith)) s
      ∙ sym (get_d_part b n xs i 0 (omega arith)))
