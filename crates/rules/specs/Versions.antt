-- What a session sees: the version of a value at its start, the query, the flip count, and the read of a row.
use Rattle.std.specs.Prelude.{Bool, false, cond, List, [], ◌∷◌, ℕ, suc, leb}
use Rattle.std.proofs.Math.Option.{Option}
use Rattle.bits.specs.Any.{any_from}
use Rattle.bits.specs.Bit.{xorb, bit}
use Rattle.bits.specs.Rows.{rows_below, count_below, smallest_below}
use Rattle.rules.specs.Limits.{max_rows}
use Rattle.rules.specs.State.{Log, Version, Chain, chain}
use Rattle.rules.specs.Log.{between, changes_of, last_naming, or_empty}

-- an empty chain's version: no run and no undamaged table has one
abbrev pub no_version : Version
no_version = record { stamp = 0; vector = λ r. false }

-- "A head per value names its newest slot."
abbrev pub newest : Chain → Version
newest [] = no_version
newest (x ∷ xs) = x

-- "From the head of v, follow the link to the version before until the stamp b is at most s."
unfoldable pub version_at : Chain → ℕ → Version
version_at [] s = no_version
version_at (x ∷ xs) s = cond (leb x.stamp s) x (version_at xs s)

-- "Over records b+1 to s, for each row the last change naming it decides: the row is flipped if that change's set has v."
unfoldable pub flipped : Log → Chain → ℕ → ℕ → ℕ → Bool
flipped log ch s v r = bit (or_empty (last_naming (changes_of (between log (version_at ch s).stamp s)) r)) v

-- "the copy with those bits flipped"
unfoldable pub queried : Log → Chain → ℕ → ℕ → ℕ → Bool
queried log ch s v r = xorb ((version_at ch s).vector r) (flipped log ch s v r)

-- the rows that a query lists, ascending
abbrev pub queried_rows : Log → Chain → ℕ → ℕ → List ℕ
queried_rows log ch s v = rows_below (queried log ch s v) max_rows

-- "The flip count is the number of such rows."
abbrev pub flip_count : Log → Chain → ℕ → ℕ → ℕ
flip_count log ch s v = count_below (flipped log ch s v) max_rows

-- K1: "a query over a span of values, both ends in": row r is in the query of one of the values a to b
unfoldable pub spanned : Log → List Chain → ℕ → ℕ → ℕ → ℕ → Bool
spanned log cs s a b r = any_from (λ v. queried log (chain cs v) s v r) a (suc b)

-- "the rows of any of them, ascending and once each"
abbrev pub spanned_rows : Log → List Chain → ℕ → ℕ → ℕ → List ℕ
spanned_rows log cs s a b = rows_below (spanned log cs s a b) max_rows

-- "the smallest v whose query has the bit; absent if none"
unfoldable pub read_at : ℕ → Log → List Chain → ℕ → ℕ → Option ℕ
read_at values log cs s r = smallest_below (λ v. queried log (chain cs v) s v r) values
