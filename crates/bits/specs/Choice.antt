-- The first of two answers that may be missing.
use Rattle.std.specs.Prelude.{◌≡◌, refl}
use Rattle.std.proofs.Math.Option.{Option, none, some, some-ne-none}

module _ {A : Type 0} where
  -- the first answer, or the second where there is no first
  abbrev pub or_else : Option A → Option A → Option A
  or_else none b = b
  or_else (some a) b = some a

  pub or_else-none : (o : Option A) → or_else o none ≡ o
  or_else-none none = refl
  or_else-none (some a) = refl

  -- there is no answer exactly if there are none
  pub or_else-both : (a b : Option A) → or_else a b ≡ none → (a ≡ none) × (b ≡ none)
  or_else-both none b e = (refl, e)
  or_else-both (some a) b e = absurd (some-ne-none a e)
