-- Commit: the new flip sets, the changes of its record, and the conflict test.
use Rattle.std.specs.Prelude.{Bool, false, ◌||◌, List, [], ◌∷◌, ◌++◌, ℕ, suc}
use Rattle.std.proofs.Math.Option.{Option, none, some}
use Rattle.bits.specs.Bit.{flip_bit}
use Rattle.rules.specs.State.{Change, Log, Chain, Entry, alter, add, State}
use Rattle.rules.specs.Log.{above, changes_of, names, flip_set}
use Rattle.rules.specs.Versions.{read_at}
use Rattle.rules.specs.Lists.{inserts}

-- "toggled (if present)"
unfoldable pub toggled : ℕ → Option ℕ → ℕ
toggled m none = m
toggled m (some a) = flip_bit m a

-- "the new set is the flip set at s with a toggled (if present), then b toggled (if present)": the set at stamp k, the read a
-- at the start s, the target b
abbrev pub new_set : ℕ → Log → List Chain → ℕ → ℕ → ℕ → Option ℕ → ℕ
new_set values log cs k s r b = toggled (toggled (flip_set log k r) (read_at values log cs s r)) b

-- the changes of the listed rows, in list order, each with the set that g gives for the row and its target
abbrev pub row_changes : (ℕ → Option ℕ → ℕ) → List Entry → List Change
row_changes g [] = []
row_changes g (alter r t ∷ es) = record { row = r; flips = g r t } ∷ row_changes g es
row_changes g (add v ∷ es) = row_changes g es

-- "An insert gets the next row number and the set {value}."
abbrev pub insert_changes : ℕ → List ℕ → List Change
insert_changes n [] = []
insert_changes n (v ∷ vs) = record { row = n; flips = flip_bit 0 v } ∷ insert_changes (suc n) vs

-- "Changes go in list order, listed rows first, inserts after."
unfoldable pub commit_changes : State → ℕ → List Entry → List Change
commit_changes st s es = row_changes (new_set st.values st.log st.chains s s) es ++ insert_changes st.rows (inserts es)

-- "some record with a stamp above the start names a listed row"
abbrev pub conflicts : Log → ℕ → List Entry → Bool
conflicts log s [] = false
conflicts log s (alter r t ∷ es) = names (changes_of (above log s)) r || conflicts log s es
conflicts log s (add v ∷ es) = conflicts log s es

-- ---- the same test, as a search finds it

-- whether an element has p
abbrev pub some_of : {A : Type 0} → (A → Bool) → List A → Bool
some_of p [] = false
some_of p (x ∷ xs) = p x || some_of p xs

-- whether one of the changes names an entry's row; an insert has none
abbrev pub hits : List Change → Entry → Bool
hits cs (alter r t) = names cs r
hits cs (add v) = false

-- whether one of the changes names a listed row
abbrev pub hits_list : List Entry → List Change → Bool
hits_list es cs = some_of (hits cs) es
