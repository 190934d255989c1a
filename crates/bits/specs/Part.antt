-- A part of a longer list, and the list with another part in its place.
use Rattle.std.specs.Prelude.{List, ◌++◌, ℕ, ◌+◌, length, take, drop}

-- the n elements from a on
unfoldable pub part : ℕ → ℕ → List ℕ → List ℕ
part a n xs = take n (drop a xs)

-- xs with ys in the place of as many elements from a on
unfoldable pub put_part : ℕ → List ℕ → List ℕ → List ℕ
put_part a ys xs = take a xs ++ (ys ++ drop (a + length ys) xs)
