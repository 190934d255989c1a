-- The parts of a list of bytes by their places, for code that goes along the bytes, and a field read at a place.
use Rattle.std.specs.Prelude.{cond, List, [], ◌∷◌, ℕ, ◌+◌, eqb, length, drop, Some, None}
use Rattle.std.specs.Prelude as std
use Rattle.std.proofs.Math.Option.{Option, none, some}
use Rattle.fields.specs.declared.Field.{Field}
use Rattle.fields.specs.Split.{split, space}

-- the part before the first s, or all
unfoldable pub up_to : ℕ → List ℕ → List ℕ
up_to s [] = []
up_to s (b ∷ l) = cond (eqb b s) [] (b ∷ up_to s l)

-- the parts after a place where an s stands, or none at the end
unfoldable pub behind : ℕ → List ℕ → List (List ℕ)
behind s [] = []
behind s (b ∷ l) = split s l

-- the part that starts at a place
abbrev pub part_at : ℕ → List ℕ → ℕ → List ℕ
part_at s line i = up_to s (drop i line)

-- where the part ends that starts at a place: at the next s, or at the end
unfoldable pub end_at : ℕ → List ℕ → ℕ → ℕ
end_at s line i = i + length (part_at s line i)

-- the parts after a place where an s stands, or none at the end
unfoldable pub after : ℕ → List ℕ → ℕ → List (List ℕ)
after s line at = behind s (drop at line)

-- what was read of a field, with the place after it
abbrev pub found : ℕ → ℕ → Field
found x p = record { value = x; next = p }

-- what a field says, if anything, with the place after it
unfoldable pub tag : Option ℕ → ℕ → std.Option Field
tag none p = None
tag (some x) p = Some (found x p)

-- the first of some fields after a place, as `say` reads it, if it does
unfoldable pub first_by : (List ℕ → Option ℕ) → List (List ℕ) → ℕ → std.Option Field
first_by say [] at = None
first_by say (f ∷ fs) at = tag (say f) (at + 1 + length f)

-- the field of a line after the space at a place, as `say` reads it, if it does
unfoldable pub field_by : (List ℕ → Option ℕ) → List ℕ → ℕ → std.Option Field
field_by say line at = first_by say (after space line at) at

-- the field of a line that starts at a place, as `say` reads it, if it does
unfoldable pub start_by : (List ℕ → Option ℕ) → List ℕ → ℕ → std.Option Field
start_by say line i = tag (say (part_at space line i)) (end_at space line i)
