-- Lists of changes: the last one that names a row, and whether one does.
use mathlib.Core.Path.{◌≡◌, refl, sym, ap, ◌∙◌}
use mathlib.Core.Bool.{Bool, true, false, ◌||◌, cond, or_assoc}
use mathlib.Core.Option.{Option, none, some, none-ne-some, some-ne-none, some-injective}
use mathlib.Core.List.{List, [], ◌∷◌, ◌++◌, append_assoc, append-nil}
use Prim.Native.Nat.{ℕ}
use borrow.Author.Tests.{eqb-true}
use lib.Dec.{eqb}
use Rattle.bits.specs.Choice.{or_else, or_else-none, or_else-both}
use Rattle.rules.specs.State.{Change, Record}
use Rattle.rules.specs.Log.{changes_of, naming, last_naming, some_change, names}
use Rattle.rules.proofs.Small.{or_parts, or_else-assoc}

-- ---- one list after another

pub some_change-append : (p : Change → Bool) (a b : List Change) → some_change p (a ++ b) ≡ (some_change p a || some_change p b)
some_change-append p [] b = refl
some_change-append p (c ∷ a) b = rw (some_change-append p a b) (sym (or_assoc (p c) (some_change p a) (some_change p b)))

pub names-append : (a b : List Change) (r : ℕ) → names (a ++ b) r ≡ (names a r || names b r)
names-append a b r = some_change-append (λ c. eqb c.row r) a b

pub last_naming-append : (a b : List Change) (r : ℕ) → last_naming (a ++ b) r ≡ or_else (last_naming b r) (last_naming a r)
last_naming-append [] b r = sym (or_else-none (last_naming b r))
last_naming-append (c ∷ a) b r = rw (last_naming-append a b r) (or_else-assoc (last_naming b r) (last_naming a r) (naming c r))

pub changes_of-append : (a b : List Record) → changes_of (a ++ b) ≡ changes_of a ++ changes_of b
changes_of-append [] b = refl
changes_of-append (x ∷ a) b = rw (changes_of-append a b) (sym (append_assoc x.changes (changes_of a) (changes_of b)))

pub changes_of-snoc : (a : List Record) (x : Record) → changes_of (a ++ (x ∷ [])) ≡ changes_of a ++ x.changes
changes_of-snoc a x = changes_of-append a (x ∷ []) ∙ ap (λ (cs : List Change). changes_of a ++ cs) (append-nil x.changes)

-- ---- a row is named exactly if there is a last change naming it

pub not_named : (cs : List Change) (r : ℕ) → names cs r ≡ false → last_naming cs r ≡ none
not_named [] r e = refl
not_named (c ∷ cs) r e = let p = or_parts (eqb c.row r) (names cs r) e in rw (not_named cs r p.1, p.0)

pub none_named : (cs : List Change) (r : ℕ) → last_naming cs r ≡ none → names cs r ≡ false
none_named [] r e = refl
none_named (c ∷ cs) r e =
    let p = or_else-both (last_naming cs r) (naming c r) e in
    rw (at (eqb c.row r) p.1, none_named cs r p.0)
  where
    at : (b : Bool) → cond b (some c.flips) none ≡ none → b ≡ false
    at true q = absurd (some-ne-none c.flips q)
    at false q = refl

-- a test that no change passes fails at the last one that names r
pub last-fails : (p : Change → Bool) (cs : List Change) (r m : ℕ) → some_change p cs ≡ false → last_naming cs r ≡ some m
    → p (record { row = r; flips = m }) ≡ false
last-fails p [] r m e q = absurd (none-ne-some m q)
last-fails p (c ∷ cs) r m e q = go (last_naming cs r) refl (λ l. last-fails p cs r m t.1 l)
  where
    t : (p c ≡ false) × (some_change p cs ≡ false)
    t = or_parts (p c) (some_change p cs) e

    at : (b : Bool) → eqb c.row r ≡ b → cond b (some c.flips) none ≡ some m → p (record { row = r; flips = m }) ≡ false
    at true u l = rw (← (eqb-true c.row r u), ← (some-injective c.flips m l)) t.0
    at false u l = absurd (none-ne-some m l)

    go : (o : Option ℕ) → last_naming cs r ≡ o → (last_naming cs r ≡ some m → p (record { row = r; flips = m }) ≡ false)
        → p (record { row = r; flips = m }) ≡ false
    go none l ih = at (eqb c.row r) refl (rw l at q)
    go (some k) l ih = ih (l ∙ (rw l at q))
