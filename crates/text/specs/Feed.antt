-- An input that comes in chunks: the lines that a chunk ends, and the bytes that wait for their newline.
use Rattle.std.specs.Prelude.{◌≡◌, ℕ, ◌+◌, ◌-◌, ◌<◌, ◌≤◌, Bool, false, cond, ◌||◌, List, [], ◌∷◌, ◌++◌, map, length, take, drop, ◌==◌, Option, Some, None, IfSome}
use Rattle.std.proofs.lemmas.List.Edits.{sets}
use Rattle.text.specs.declared.feed.Fed.{Fed}
use Rattle.fields.specs.Split.{newline}

-- the lines that a chunk ends after pending bytes
unfoldable pub cut : List ℕ → List ℕ → List (List ℕ)
cut p [] = []
cut p (b ∷ l) = cond (b == newline) (p ∷ cut [] l) (cut (p ++ b ∷ []) l)

-- the bytes that are pending after it
unfoldable pub pend : List ℕ → List ℕ → List ℕ
pend p [] = p
pend p (b ∷ l) = cond (b == newline) (pend [] l) (pend (p ++ b ∷ []) l)

-- ---- what the code promises

-- whether one of the bytes is s
unfoldable pub has_byte : ℕ → List ℕ → Bool
has_byte s [] = false
has_byte s (b ∷ l) = b == s || has_byte s l

-- `part` stands after the first `len` bytes of `entry`, as far as there is room; `r` is where it ends
pub record Gathered (entry : List ℕ) (len : ℕ) (part exit : List ℕ) (r : ℕ) : Type 0 where
  pub list-is : exit ≡ sets entry len (take (length entry - len) part)
  pub place_is : r ≡ len + length (take (length entry - len) part)
  pub room : length exit ≡ length entry

-- a line that is whole, the first n bytes held, or none
unfoldable pub whole_line : Option ℕ → List ℕ → List (List ℕ)
whole_line None held = []
whole_line (Some n) held = take n held ∷ []

-- of a chunk from `at` on after the first `len` bytes of `entry`, which holds as many bytes as it has: the line that was
-- fed, where it is whole, and then the lines and pending bytes of what is left from `next` on
pub record Feeds (entry : List ℕ) (len : ℕ) (bytes : List ℕ) (at : ℕ) (exit : List ℕ) (r : Fed) : Type 0 where
  pub lines_are : map (take (length entry)) (cut (take len entry) (drop at bytes))
      ≡ whole_line r.line exit ++ map (take (length entry)) (cut (take r.len exit) (drop r.next bytes))
  pub pending-is : take (length entry) (pend (take len entry) (drop at bytes))
      ≡ take (length entry) (pend (take r.len exit) (drop r.next bytes))
  pub room : length exit ≡ length entry
  pub line-fits : IfSome r.line (λ n. n ≤ length entry)
  pub len-fits : r.len ≤ length entry
  pub goes_on : at < r.next
  pub within : r.next ≤ length bytes
