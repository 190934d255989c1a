-- Laws of the parts of a list of bytes by their places: the split from a place on, and one byte more of a part.
use mathlib.Core.Path.{◌≡◌, refl, sym, ◌∙◌}
use mathlib.Core.List.{List, [], ◌∷◌}
use mathlib.Core.Bool.{Bool, true, false}
use Prim.Native.Nat.{ℕ, ◌+◌, ◌<◌, ◌≤◌}
use native.Mathlib.Numerals.{add-one}
use native.Mathlib.Omega.{arith}
use borrow.Author.Tests.{eq-eqb, ne_eqb}
use lib.Dec.{eqb}
use lib.ListN.{length, take, drop, get_or, length-drop, drop_of_length-le}
use lib.Seq.{drop-cons, drop-drop}
use Rattle.fields.specs.Split.{before, split}
use Rattle.fields.specs.Places.{up_to, behind, part_at, end_at, after}

-- ---- a split is its first part and the parts behind it

go_on : (s b : ℕ) (l : List ℕ) (t : Bool) → eqb b s ≡ t → split s l ≡ up_to s l ∷ behind s (drop (length (up_to s l)) l)
    → split s (b ∷ l) ≡ up_to s (b ∷ l) ∷ behind s (drop (length (up_to s (b ∷ l))) (b ∷ l))
unfolding split up_to behind before
go_on s b l true e r = rw e
go_on s b l false e r = rw (e, r)

pub split-first : (s : ℕ) (l : List ℕ) → split s l ≡ up_to s l ∷ behind s (drop (length (up_to s l)) l)
unfolding split up_to behind
split-first s [] = refl
split-first s (b ∷ l) = go_on s b l (eqb b s) refl (split-first s l)

pub split_at : (s : ℕ) (line : List ℕ) (i : ℕ) → split s (drop i line) ≡ part_at s line i ∷ after s line (end_at s line i)
unfolding after end_at
split_at s line i = split-first s (drop i line) ∙ rw drop-drop

-- ---- one byte more

module _ (s : ℕ) (line : List ℕ) (i : ℕ) where
  pub part_end : length line ≤ i → part_at s line i ≡ []
  unfolding up_to
  part_end h = rw (drop_of_length-le line h)

  pub part-here : i < length line → get_or line i 0 ≡ s → part_at s line i ≡ []
  unfolding up_to
  part-here h e = rw (drop-cons line i 0 h, eq-eqb (get_or line i 0) s e)

  pub part_step : i < length line → (get_or line i 0 ≡ s → ⊥) → part_at s line i ≡ get_or line i 0 ∷ part_at s line (i + 1)
  unfolding up_to
  part_step h e = rw (drop-cons line i 0 h, ne_eqb (get_or line i 0) s e, add-one)

  pub end-end : length line ≤ i → end_at s line i ≡ i
  unfolding end_at
  end-end h = rw (part_end h) (omega arith)

  pub end-here : i < length line → get_or line i 0 ≡ s → end_at s line i ≡ i
  unfolding end_at
  end-here h e = rw (part-here h e) (omega arith)

  pub end_step : i < length line → (get_or line i 0 ≡ s → ⊥) → end_at s line i ≡ end_at s line (i + 1)
  unfolding end_at
  end_step h e = rw (part_step h e) (omega arith)

  pub after-end : length line ≤ i → after s line i ≡ []
  unfolding after behind
  after-end h = rw (drop_of_length-le line h)

  pub after-step : i < length line → after s line i ≡ part_at s line (i + 1) ∷ after s line (end_at s line (i + 1))
  unfolding after behind
  after-step h = rw (drop-cons line i 0 h, ← add-one, split_at s line (i + 1))

-- ---- the turns of a loop that looks for the end: w is the whole answer

module _ (s : ℕ) (line : List ℕ) (i w : ℕ) where
  pub ends-step : w ≡ end_at s line i → i < length line → (get_or line i 0 ≡ s → ⊥) → w ≡ end_at s line (i + 1)
  ends-step v h e = v ∙ end_step s line i h e

  pub ends-here : w ≡ end_at s line i → i < length line → get_or line i 0 ≡ s → i ≡ w
  ends-here v h e = sym (v ∙ end-here s line i h e)

  pub ends-end : w ≡ end_at s line i → length line ≤ i → i ≤ length line → length line ≡ w
  ends-end v h k = let z : i ≡ length line = omega arith in sym (v ∙ end-end s line i h ∙ z)

-- ---- where a part ends, and what its bytes are

part-fits : (s : ℕ) (l : List ℕ) → length (up_to s l) ≤ length l
unfolding up_to
part-fits s [] = omega arith
part-fits s (b ∷ l) = go (eqb b s) refl (part-fits s l)
  where
    go : (t : Bool) → eqb b s ≡ t → length (up_to s l) ≤ length l → length (up_to s (b ∷ l)) ≤ length (b ∷ l)
    go true e h = rw e (omega arith)
    go false e h = rw e (omega arith)

pub end_fits : (s : ℕ) (line : List ℕ) (i : ℕ) → i ≤ length line → end_at s line i ≤ length line
unfolding end_at
end_fits s line i h = omega (arith, part-fits s (drop i line), length-drop i line)

pub end-past : (s : ℕ) (line : List ℕ) (i : ℕ) → i ≤ end_at s line i
unfolding end_at
end-past s line i = omega arith

take_more : (s b : ℕ) (l : List ℕ) (t : Bool) → eqb b s ≡ t → take (length (up_to s l)) l ≡ up_to s l
    → take (length (up_to s (b ∷ l))) (b ∷ l) ≡ up_to s (b ∷ l)
unfolding up_to
take_more s b l true e h = rw e
take_more s b l false e h = rw (e, h)

pub take_part : (s : ℕ) (l : List ℕ) → take (length (up_to s l)) l ≡ up_to s l
unfolding up_to
take_part s [] = refl
take_part s (b ∷ l) = take_more s b l (eqb b s) refl (take_part s l)

pub take-first : (s : ℕ) (l : List ℕ) (at : ℕ) → at ≡ end_at s l 0 → take at l ≡ up_to s l
unfolding end_at
take-first s l at e = let z : 0 + length (up_to s l) ≡ length (up_to s l) = omega arith in rw (e, z) (take_part s l)

pub split-start : (s : ℕ) (l : List ℕ) (at : ℕ) → at ≡ end_at s l 0 → split s l ≡ up_to s l ∷ after s l at
split-start s l at e = split_at s l 0 ∙ rw e

-- ---- the bytes of the parts, with one more for each

unfoldable pub size : List (List ℕ) → ℕ
size [] = 0
size (f ∷ fs) = length f + 1 + size fs

size-before : (b : ℕ) (fs : List (List ℕ)) → 1 ≤ size fs → size (before b fs) ≡ size fs + 1
unfolding size before
size-before b [] h = absurd (omega arith)
size-before b (f ∷ fs) h = omega arith

size-more : (s b : ℕ) (l : List ℕ) (t : Bool) → eqb b s ≡ t → size (split s l) ≡ length l + 1 → size (split s (b ∷ l)) ≡ length (b ∷ l) + 1
unfolding size split
size-more s b l true e h = rw e (omega arith)
size-more s b l false e h = rw e (omega (arith, size-before b (split s l) (omega arith)))

pub size-split : (s : ℕ) (l : List ℕ) → size (split s l) ≡ length l + 1
unfolding size split
size-split s [] = refl
size-split s (b ∷ l) = size-more s b l (eqb b s) refl (size-split s l)
