-- A session's list: what it lists for a row, how an entry is put, and the inserts.
use Rattle.std.specs.Prelude.{Bool, false, ◌||◌, cond, List, [], ◌∷◌, ℕ, eqb}
use Rattle.std.proofs.Math.Option.{Option, none, some}
use Rattle.rules.specs.State.{Entry, alter, add}

-- the listed target of row r, if it is listed
abbrev pub target : List Entry → ℕ → Option (Option ℕ)
target [] r = none
target (alter q t ∷ es) r = cond (eqb q r) (some t) (target es r)
target (add v ∷ es) r = target es r

-- whether row r is listed
abbrev pub lists : List Entry → ℕ → Bool
lists [] r = false
lists (alter q t ∷ es) r = eqb q r || lists es r
lists (add v ∷ es) r = lists es r

-- "A second change of a row replaces the entry where it stands."
abbrev pub put : List Entry → ℕ → Option ℕ → List Entry
put [] r t = alter r t ∷ []
put (alter q u ∷ es) r t = cond (eqb q r) (alter r t ∷ es) (alter q u ∷ put es r t)
put (add v ∷ es) r t = add v ∷ put es r t

-- the values of the inserts, in list order
abbrev pub inserts : List Entry → List ℕ
inserts [] = []
inserts (alter q t ∷ es) = inserts es
inserts (add v ∷ es) = v ∷ inserts es

-- "A row's standing value here is its listed target if any, otherwise its read."
abbrev pub standing : Option (Option ℕ) → Option ℕ → Option ℕ
standing none held = held
standing (some t) held = t
