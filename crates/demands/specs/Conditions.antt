-- The refusals of each call on lent tables, as a table in the order in which they are judged: a condition and its number.
use Rattle.std.specs.Prelude.{not, List, ◌∷◌}
use Rattle.rules.specs.Refusals.{Test, tests}
use Rattle.tables.specs.Cells.{Tables}
use Rattle.tables.specs.Room.{roomy}
use Rattle.tables.specs.Damage.{sound}
use Rattle.tables.specs.Meaning.{meaning}
use Rattle.demands.specs.Asks.{Ask, create, begin, query, span, read, update, delete, insert, commit, tidy, abort, call_of}

-- 1: "clock, versions, heads, log, changes or sessions lent without room for its full limit"
abbrev pub no_room : Tables → Test
no_room t = (not (roomy t), 1)

-- 2: "damaged tables"
abbrev pub damaged : Tables → Test
damaged t = (not (sound t), 2)

-- the rules' own, at what the tables mean
abbrev pub ruled : Tables → Ask → List Test
ruled t a = tests (meaning t) (call_of a)

-- 2 is for "all but create"
abbrev pub conditions : Tables → Ask → List Test
conditions t (create C col) = no_room t ∷ ruled t (create C col)
conditions t (begin n) = no_room t ∷ damaged t ∷ ruled t (begin n)
conditions t (query scratch n v threshold) = no_room t ∷ damaged t ∷ ruled t (query scratch n v threshold)
conditions t (span list n a b) = no_room t ∷ damaged t ∷ ruled t (span list n a b)
conditions t (read n r) = no_room t ∷ damaged t ∷ ruled t (read n r)
conditions t (update n r v) = no_room t ∷ damaged t ∷ ruled t (update n r v)
conditions t (delete n r) = no_room t ∷ damaged t ∷ ruled t (delete n r)
conditions t (insert n v) = no_room t ∷ damaged t ∷ ruled t (insert n v)
conditions t (commit n) = no_room t ∷ damaged t ∷ ruled t (commit n)
conditions t (tidy n v) = no_room t ∷ damaged t ∷ ruled t (tidy n v)
conditions t (abort n) = no_room t ∷ damaged t ∷ ruled t (abort n)
