-- Laws of bytes that are the same, and of the word that a field is.
use Rattle.std.proofs.Common.{◌≡◌, ℕ, Bool, true, false, eqb, List, [], ◌∷◌, sym, refl, ◌∙◌, eq-eqb, eqb-true}
use mathlib.Core.Bool.{and-eq-true_iff}
use Rattle.bits.proofs.Cases.{same_truth}
use Rattle.std.specs.Prelude.{Option, Some}
use Rattle.text.specs.declared.words.Word.{Word}
use Rattle.text.specs.Bytes.{same}
use Rattle.text.specs.Words.{or_word}

-- ---- the same bytes

same_refl : (a : List ℕ) → same a a ≡ true
unfolding same
same_refl [] = refl
same_refl (x ∷ xs) = rw (eq-eqb x x refl, same_refl xs)

pub same-eq : (a b : List ℕ) → same a b ≡ true → a ≡ b
unfolding same
same-eq [] [] h = refl
same-eq [] (y ∷ ys) h = cc
same-eq (x ∷ xs) [] h = cc
same-eq (x ∷ xs) (y ∷ ys) h =
    let e = (and-eq-true_iff (eqb x y) (same xs ys)).0 h in
    rw (eqb-true x y e.0, same-eq xs ys e.1)

-- what `check::same` ensures says that its answer is `same`
pub same-is : (r : Bool) (a b : List ℕ) → (r ≡ true → a ≡ b) × (a ≡ b → r ≡ true) → r ≡ same a b
same-is r a b h = same_truth r (same a b) (λ e. rw (h.0 e) (same_refl b)) (λ e. h.1 (same-eq a b e))

-- ---- a chain of tests

pub here : (r b : Bool) (w : Word) (v : Option Word) → r ≡ b → r ≡ true → Some w ≡ or_word b w v
unfolding or_word
here r b w v e h = rw (sym e ∙ h)

pub past : (r b : Bool) (w : Word) (v o : Option Word) → r ≡ b → r ≡ false → o ≡ v → o ≡ or_word b w v
unfolding or_word
past r b w v o e h g = rw (sym e ∙ h) g
