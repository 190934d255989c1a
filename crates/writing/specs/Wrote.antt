-- Bytes written into lent bytes from a place on, and the digits that are written at once.
use Rattle.std.specs.Prelude.{◌≡◌, cond, List, [], ◌∷◌, ◌++◌, ℕ, ◌+◌, ◌/◌, ◌%◌, ◌≤◌, eqb, length}
use Rattle.std.proofs.lemmas.List.Edits.{sets}
use Rattle.bits.specs.Tab.{tab}
use Rattle.rules.specs.Calls.{Answer}
use Rattle.fields.specs.Split.{space}
use Rattle.text.specs.Show.{decimal, show}

-- `bs` stands from `at` on in `exit`, which else is `entry`; `r` is the place after it
pub record Wrote (entry : List ℕ) (at : ℕ) (bs exit : List ℕ) (r : ℕ) : Type 0 where
  pub list-is : exit ≡ sets entry at bs
  pub place_is : r ≡ at + length bs
  pub room : length exit ≡ length entry

-- the answer stands at the front of `exit`, which else is `entry`; it has r bytes, which are at most `most`
pub record Answered (entry : List ℕ) (answer : Answer) (exit : List ℕ) (r most : ℕ) : Type 0 where
  pub wrote : Wrote entry 0 (show answer) exit r
  pub short : r ≤ most

-- the digits of a number below 100, a leading zero too
abbrev pub two_digits : ℕ → List ℕ
two_digits n = (48 + n / 10) ∷ (48 + n % 10) ∷ []

-- the digits of a number below 10,000, leading zeros too
abbrev pub four_digits : ℕ → List ℕ
four_digits n = two_digits (n / 100) ++ two_digits (n % 100)

-- the text of the numbers below 100, two digits each
unfoldable pub pair_byte : ℕ → ℕ
pair_byte k = 48 + cond (eqb (k % 2) 0) (k / 2 / 10) (k / 2 % 10)

unfoldable pub pairs : List ℕ
pairs = tab pair_byte 200

-- a number after a space
abbrev pub field_of : ℕ → List ℕ
field_of n = space ∷ decimal n
