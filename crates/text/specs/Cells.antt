-- The values of a column as bytes: a value, or 255 for absent.
use Rattle.std.specs.Prelude.{◌≡◌, ℕ, ◌+◌, ◌*◌, ◌<◌, ◌≤◌, cond, List, [], ◌∷◌, length, Some, None}
use Rattle.std.specs.Prelude as std
use Rattle.std.proofs.Math.Option.{Option, none, some}
use Rattle.std.proofs.lemmas.List.Edits.{sets}
use Rattle.text.specs.declared.cells.Run.{Run}
use Rattle.fields.specs.declared.Field.{Field}
use Rattle.text.specs.Bytes.{bytes, same}
use Rattle.fields.specs.Split.{space}
use Rattle.text.specs.Parse.{each, small}
use Rattle.fields.specs.Places.{after, field_by}

-- the byte of a field of a column
unfoldable pub byte_of : List ℕ → Option ℕ
byte_of f = cond (same f (bytes "-")) (some 255) (small f)

-- one byte more, or no more at one that is none
unfoldable pub or_end : Option ℕ → List ℕ → List ℕ
or_end none l = []
or_end (some v) l = v ∷ l

-- the bytes of some fields, up to one that is none
unfoldable pub bytes_of : List (List ℕ) → List ℕ
bytes_of [] = []
bytes_of (f ∷ fs) = or_end (byte_of f) (bytes_of fs)

-- how many bytes, n of them counted before, if all are
unfoldable pub counted : ℕ → Option (List ℕ) → std.Option ℕ
counted n none = None
counted n (some l) = Some (n + length l)

-- the fields of a line after a place as a column's bytes: those up to one that is none are stored, and all are counted
pub record Stored (line : List ℕ) (at : ℕ) (entry exit : List ℕ) (r : std.Option ℕ) : Type 0 where
  pub bytes-are : exit ≡ sets entry 0 (bytes_of (after space line at))
  pub count-is : r ≡ counted 0 (each byte_of (after space line at))

-- some cells from the place `start` on are stored, after k others, and the line is told up to the place `at`, with n cells before it: what
-- is stored and counted and what is still to come make the whole
pub record Filling (line : List ℕ) (start k : ℕ) (entry exit : List ℕ) (at n : ℕ) : Type 0 where
  pub more : k ≤ n
  pub low : start + 2 * n ≤ at + 2 * k
  pub room : length exit ≡ length entry
  pub written : sets entry k (bytes_of (after space line start)) ≡ sets exit n (bytes_of (after space line at))
  pub judged : counted k (each byte_of (after space line start)) ≡ counted n (each byte_of (after space line at))

-- so up to a place in the line
pub record Ran (line : List ℕ) (start k : ℕ) (entry exit : List ℕ) (r : Run) : Type 0 where
  pub filled : Filling line start k entry exit r.at r.n
  pub inside : r.at < length line

-- what is read of a cell is the cell, and the line goes on after it
pub record Near (line : List ℕ) (at : ℕ) (r : Field) : Type 0 where
  pub cell-is : Some r ≡ field_by byte_of line at
  pub inside : r.next < length line
