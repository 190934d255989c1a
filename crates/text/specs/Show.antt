-- An answer as bytes, without its newline: the writing half of document 01's "The step program".
use Rattle.std.specs.Prelude.{ℕ, zero, suc, ◌+◌, ◌/◌, ◌%◌, Bool, true, false, cond, List, [], ◌∷◌, ◌++◌, length, nat_lt}
use Rattle.std.proofs.Math.Option.{none, some}
use Rattle.rules.specs.Calls.{Answer, refused, ok, value, listed, found}
use Rattle.text.specs.Bytes.{bytes}
use Rattle.fields.specs.Split.{space}

-- a number in decimal, which has at most k digits before the last, and none where it is below 10
unfoldable pub decimal_by : ℕ → Bool → ℕ → List ℕ
decimal_by zero below n = (48 + n % 10) ∷ []
decimal_by (suc k) true n = (48 + n) ∷ []
decimal_by (suc k) false n = decimal_by k (nat_lt (n / 10) 10) (n / 10) ++ ((48 + n % 10) ∷ [])

-- a number in decimal: it has fewer digits before the last than it counts
unfoldable pub decimal : ℕ → List ℕ
decimal n = decimal_by n (nat_lt n 10) n

-- each number after a space
unfoldable pub spaced : List ℕ → List ℕ
spaced [] = []
spaced (n ∷ ns) = space ∷ decimal n ++ spaced ns

-- "Answers: `ok` and numbers, or `no N`. .. Query: flip count, due (1 or 0), number of rows, the rows ascending. Read: value or `-`."
-- A span of values has no word in the step program, so no line is answered by what it found: it is shown as a query, less flip
-- count and due.
unfoldable pub show : Answer → List ℕ
show (refused n) = bytes "no" ++ spaced (n ∷ [])
show (ok ns) = bytes "ok" ++ spaced ns
show (value none) = bytes "ok -"
show (value (some v)) = bytes "ok" ++ spaced (v ∷ [])
show (found rows) = bytes "ok" ++ spaced (length rows ∷ rows)
show (listed flips due rows) = bytes "ok" ++ spaced (flips ∷ cond due 1 0 ∷ length rows ∷ rows)
