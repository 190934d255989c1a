-- The lines of an input: what "It reads lines from standard input" means for the input as one list of bytes.
use Rattle.std.specs.Prelude.{ℕ, List, [], ◌∷◌, ◌++◌}
use Rattle.fields.specs.Split.{split, newline}

-- all parts but the last
unfoldable pub all_but_last : List (List ℕ) → List (List ℕ)
all_but_last [] = []
all_but_last (f ∷ []) = []
all_but_last (f ∷ g ∷ fs) = f ∷ all_but_last (g ∷ fs)

-- the last part
unfoldable pub last_of : List (List ℕ) → List ℕ
last_of [] = []
last_of (f ∷ []) = f
last_of (f ∷ g ∷ fs) = last_of (g ∷ fs)

-- "A last line without a newline counts"; nothing after the last newline is no line
unfoldable pub last_line : List ℕ → List (List ℕ)
last_line [] = []
last_line (b ∷ l) = (b ∷ l) ∷ []

-- the lines that a newline ends, and a last one that has none
unfoldable pub lines_of : List ℕ → List (List ℕ)
lines_of input = all_but_last (split newline input) ++ last_line (last_of (split newline input))
