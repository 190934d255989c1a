-- A list of bytes split at a byte: a line into its fields (at the space), an input into its lines (at the newline).
use Rattle.std.specs.Prelude.{cond, List, [], ◌∷◌, ℕ, eqb}

-- the byte b put before the first part
unfoldable pub before : ℕ → List (List ℕ) → List (List ℕ)
before b [] = (b ∷ []) ∷ []
before b (f ∷ fs) = (b ∷ f) ∷ fs

-- the parts between the bytes s: one more than there are of them, each as it stands, empty or not
unfoldable pub split : ℕ → List ℕ → List (List ℕ)
split s [] = [] ∷ []
split s (b ∷ l) = cond (eqb b s) ([] ∷ split s l) (before b (split s l))

-- the byte of a space
abbrev pub space : ℕ
space = 32

-- the byte of a newline
abbrev pub newline : ℕ
newline = 10
