-- A test that holds of some number.
use Rattle.std.specs.Prelude.{Bool, false, ◌||◌, ℕ, zero, suc, ◌+◌, ◌-◌}

-- p holds of a number below n
unfoldable pub any_below : (ℕ → Bool) → ℕ → Bool
any_below p zero = false
any_below p (suc n) = any_below p n || p n

-- p holds of a number from a on and below b
unfoldable pub any_from : (ℕ → Bool) → ℕ → ℕ → Bool
any_from p a b = any_below (λ k. p (a + k)) (b - a)
