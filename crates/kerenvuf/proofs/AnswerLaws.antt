-- Where a query's words stand, in numbers.
use mathlib.Core.Path.{◌≡◌, sym, ◌∙◌, ap}
use mathlib.Core.Bool.{Bool, cond}
use Prim.Native.Nat.{ℕ, ◌+◌, ◌≤◌, ◌<◌}
use borrow.Author.Tests.{lt-ltb, le-ltb}
use Rattle.outcomes.specs.declared.answers.Place.{Place}
use Rattle.outcomes.specs.declared.answers.Place.TheVariants.{Slot}
use Rattle.outcomes.specs.Said.{place_of}
use Rattle.kerenvuf.specs.Heard.{place_number}

-- where a query's words stand
pub place-past : (p : Place) (i : ℕ) → p ≡ Slot i → 96 ≤ i → 97 ≡ place_number (place_of p)
place-past p i e h = sym (ap (λ (x : Place). place_number (place_of x)) e ∙ ap (λ (b : Bool). cond b (i + 1) 97) (le-ltb i 96 h))

pub place-slot : (p : Place) (i : ℕ) → p ≡ Slot i → i < 96 → i + 1 ≡ place_number (place_of p)
place-slot p i e h = sym (ap (λ (x : Place). place_number (place_of x)) e ∙ ap (λ (b : Bool). cond b (i + 1) 97) (lt-ltb i 96 h))
