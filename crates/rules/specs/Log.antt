-- The log: its stretches, the last change that names a row, and the flip set of a row at a stamp.
use Rattle.std.specs.Prelude.{Bool, false, ◌||◌, cond, List, [], ◌∷◌, ◌++◌, ℕ, zero, suc, eqb, length, take, drop}
use Rattle.std.proofs.Math.Option.{Option, none, some}
use Rattle.bits.specs.Choice.{or_else}
use Rattle.rules.specs.State.{Change, Record, Log}

-- "There are as many records as the stamp."
unfoldable pub stamp_of : Log → ℕ
stamp_of log = length log

-- records 1 to s
unfoldable pub up_to : Log → ℕ → List Record
up_to log s = take s log

-- the records above s
unfoldable pub above : Log → ℕ → List Record
above log s = drop s log

-- records b+1 to s
unfoldable pub between : Log → ℕ → ℕ → List Record
between log b s = drop b (take s log)

-- one record more
unfoldable pub grown : Log → Record → Log
grown log x = log ++ (x ∷ [])

-- the changes of some records, in order
abbrev pub changes_of : List Record → List Change
changes_of [] = []
changes_of (x ∷ xs) = x.changes ++ changes_of xs

-- all changes of the log
unfoldable pub all_changes : Log → List Change
all_changes log = changes_of log

-- the flip set of one change, if it names row r
abbrev pub naming : Change → ℕ → Option ℕ
naming c r = cond (eqb c.row r) (some c.flips) none

-- the flip set of the last change naming row r
abbrev pub last_naming : List Change → ℕ → Option ℕ
last_naming [] r = none
last_naming (c ∷ cs) r = or_else (last_naming cs r) (naming c r)

-- whether a change has p
abbrev pub some_change : (Change → Bool) → List Change → Bool
some_change p [] = false
some_change p (c ∷ cs) = p c || some_change p cs

-- whether a change names row r
abbrev pub names : List Change → ℕ → Bool
names cs r = some_change (λ c. eqb c.row r) cs

-- "or empty"
abbrev pub or_empty : Option ℕ → ℕ
or_empty none = zero
or_empty (some m) = m

-- "The flip set of row r at stamp s is that of the last change naming r in records 1 to s, or empty."
unfoldable pub flip_set : Log → ℕ → ℕ → ℕ
flip_set log s r = or_empty (last_naming (changes_of (up_to log s)) r)

-- the row count at stamp s: the first one, or that of record s
abbrev pub rows_at : ℕ → Log → ℕ → ℕ
rows_at n log zero = n
rows_at n [] (suc s) = n
rows_at n (x ∷ xs) (suc s) = rows_at x.rows xs s
