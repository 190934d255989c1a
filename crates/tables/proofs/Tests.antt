-- Tests that hold together, one of two tests, and a test that fails.
use mathlib.Core.Path.{◌≡◌, refl, sym, ◌∙◌}
use mathlib.Core.Bool.{Bool, true, false, not, ◌&&◌, ◌||◌, and-eq-true_iff, true≢false}
use mathlib.Core.Logic.{◌⊎◌, inl, inr}
use borrow.Author.Tests.{not-true, not-false, leb-true, le-leb, ltb-true, lt-ltb, eqb-true, eq-eqb}

pub both : (a b : Bool) → a && b ≡ true → (a ≡ true) × (b ≡ true)
both a b = (and-eq-true_iff a b).0

pub and_both : (a b : Bool) → a ≡ true → b ≡ true → a && b ≡ true
and_both a b p q = (and-eq-true_iff a b).1 (p, q)

pub either : (a b : Bool) → a || b ≡ true → (a ≡ true) ⊎ (b ≡ true)
either true b e = inl refl
either false b e = inr e

pub or_left : (a b : Bool) → a ≡ true → a || b ≡ true
or_left true b e = refl
or_left false b e = absurd (true≢false (sym e))

pub or_right : (a b : Bool) → b ≡ true → a || b ≡ true
or_right true b e = refl
or_right false b e = e

pub and_left : (a b : Bool) → a && b ≡ true → a ≡ true
and_left a b e = (both a b e).0

pub and_right : (a b : Bool) → a && b ≡ true → b ≡ true
and_right a b e = (both a b e).1

-- what tests that hold together say, and what makes them hold: for `search`
pub ruleset told = (and_left, and_right, leb-true, ltb-true, eqb-true)

pub ruleset made = (and_both, le-leb, lt-ltb, eq-eqb)

-- a test fails where its truth would give too much
pub not_so : (x : Bool) → (x ≡ true → ⊥) → false ≡ x
not_so true h = absurd (h refl)
not_so false h = refl

-- a test that the code found true, or false
pub found-true : (b x : Bool) → b ≡ x → not b ≡ false → x ≡ true
found-true b x e h = sym e ∙ not-false b h

pub found-false : (b x : Bool) → b ≡ x → not b ≡ true → x ≡ true → ⊥
found-false b x e h q = true≢false (sym q ∙ sym e ∙ not-true b h)
