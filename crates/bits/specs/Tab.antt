-- The list of a function's values, and a list stored over the front of another.
use Rattle.std.specs.Prelude.{List, [], ◌∷◌, ◌++◌, ℕ, zero, suc, length, drop}

-- l stored in d from the front
abbrev pub over : List ℕ → List ℕ → List ℕ
over l d = l ++ drop (length l) d

module _ {A : Type 0} where
  -- g 0, .., g (n - 1)
  unfoldable pub tab : (ℕ → A) → ℕ → List A
  tab g zero = []
  tab g (suc n) = tab g n ++ (g n ∷ [])
