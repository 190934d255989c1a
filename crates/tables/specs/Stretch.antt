-- A stretch of places.
use Rattle.std.specs.Prelude.{List, ℕ, ◌+◌, ◌-◌}
use Rattle.bits.specs.Tab.{tab}

-- f at the places from a to b, b not among them
unfoldable pub stretch : {A : Type 0} → (ℕ → A) → ℕ → ℕ → List A
stretch f a b = tab (λ k. f (a + k)) (b - a)
