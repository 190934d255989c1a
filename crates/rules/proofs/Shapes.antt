-- The rules' definitions in the shapes that loops compute: a scan of changes, records or entries, one more of them at a time.
use mathlib.Core.Path.{◌≡◌, refl, sym, ap, ap₂, ◌∙◌}
use mathlib.Core.Bool.{Bool, true, false, ◌||◌, cond, or_assoc, or_comm, or-false}
use mathlib.Core.Option.{Option, some}
use mathlib.Core.List.{List, [], ◌∷◌, ◌++◌}
use Prim.Native.Nat.{ℕ, zero, suc, ◌+◌, ◌<◌}
use native.Mathlib.Omega.{arith}
use native.Mathlib.Numerals.{add-one}
use borrow.Author.Tests.{eq-eqb}
use lib.Dec.{eqb}
use lib.ListN.{length, get_or, take, set}
use lib.Seq.{take-suc}
use Rattle.bits.specs.Choice.{or_else}
use Rattle.bits.specs.Rows.{count_below}
use Rattle.rules.specs.State.{Change, Record, Log, Entry, alter, add}
use Rattle.rules.specs.Log.{above, changes_of, some_change}
use Rattle.rules.specs.Lists.{target, lists, put, inserts}
use Rattle.rules.specs.Commit.{row_changes, conflicts}
pub use Rattle.rules.specs.Commit.{some_of, hits, hits_list}
use Rattle.rules.proofs.Small.{or_parts}
use Rattle.rules.proofs.Changes.{names-append}

-- ---- a test over a list

swap_or : (a b c d : Bool) → (a || b || (c || d)) ≡ (a || c || (b || d))
swap_or true b c d = refl
swap_or false true c d = sym (or_comm c true)
swap_or false false c d = refl

module _ {A : Type 0} where
  module _ (p : A → Bool) where
    pub some-append : (xs ys : List A) → some_of p (xs ++ ys) ≡ (some_of p xs || some_of p ys)
    some-append [] ys = refl
    some-append (x ∷ xs) ys = rw (some-append xs ys) (sym (or_assoc (p x) (some_of p xs) (some_of p ys)))

    pub some-snoc : (xs : List A) (x : A) → some_of p (xs ++ (x ∷ [])) ≡ (some_of p xs || p x)
    some-snoc xs x = some-append xs (x ∷ []) ∙ ap (λ (b : Bool). some_of p xs || b) (or-false (p x))

    -- a scan that has passed j elements
    pub some-passed : (xs : List A) (j : ℕ) (d : A) → j < length xs → some_of p (take (j + 1) xs) ≡ (some_of p (take j xs) || p (get_or xs j d))
    some-passed xs j d h = rw (add-one, take-suc xs j d h) (some-snoc (take j xs) (get_or xs j d))

  pub some-ext : (p q : A → Bool) (xs : List A) → ((x : A) → p x ≡ q x) → some_of p xs ≡ some_of q xs
  some-ext p q [] h = refl
  some-ext p q (x ∷ xs) h = ap₂ (λ (a b : Bool). a || b) (h x) (some-ext p q xs h)

  -- two tests in one scan
  pub some_or : (p q : A → Bool) (xs : List A) → some_of (λ x. p x || q x) xs ≡ (some_of p xs || some_of q xs)
  some_or p q [] = refl
  some_or p q (x ∷ xs) = rw (some_or p q xs) (swap_or (p x) (q x) (some_of p xs) (some_of q xs))

-- ---- changes

pub some-change : (p : Change → Bool) (cs : List Change) → some_change p cs ≡ some_of p cs
some-change p [] = refl
some-change p (c ∷ cs) = rw (some-change p cs)

-- ---- the conflict search: records above the start, and for each the listed rows

hits-append : (a b : List Change) (e : Entry) → hits (a ++ b) e ≡ (hits a e || hits b e)
hits-append a b (alter r t) = names-append a b r
hits-append a b (add v) = refl

list-append : (es : List Entry) (a b : List Change) → hits_list es (a ++ b) ≡ (hits_list es a || hits_list es b)
list-append es a b = some-ext (hits (a ++ b)) (λ e. hits a e || hits b e) es (hits-append a b) ∙ some_or (hits a) (hits b) es

list-nil : (es : List Entry) → hits_list es [] ≡ false
list-nil [] = refl
list-nil (alter r t ∷ es) = list-nil es
list-nil (add v ∷ es) = list-nil es

list-records : (es : List Entry) (xs : List Record) → hits_list es (changes_of xs) ≡ some_of (λ x. hits_list es x.changes) xs
list-records es [] = list-nil es
list-records es (x ∷ xs) = list-append es x.changes (changes_of xs) ∙ rw (list-records es xs)

-- "some record with a stamp above the start names a listed row": by entries, and by records
pub conflict-by-entries : (log : Log) (s : ℕ) (es : List Entry) → conflicts log s es ≡ hits_list es (changes_of (above log s))
conflict-by-entries log s [] = refl
conflict-by-entries log s (alter r t ∷ es) = rw (conflict-by-entries log s es)
conflict-by-entries log s (add v ∷ es) = conflict-by-entries log s es

pub conflict-by-records : (log : Log) (s : ℕ) (es : List Entry) → conflicts log s es ≡ some_of (λ x. hits_list es x.changes) (above log s)
conflict-by-records log s es = conflict-by-entries log s es ∙ list-records es (above log s)

-- ---- a session's list, one part after another

pub target-append : (xs ys : List Entry) (r : ℕ) → target (xs ++ ys) r ≡ or_else (target xs r) (target ys r)
target-append [] ys r = refl
target-append (alter q t ∷ xs) ys r = rw (target-append xs ys r) (go (eqb q r))
  where
    go : (b : Bool) → cond b (some t) (or_else (target xs r) (target ys r)) ≡ or_else (cond b (some t) (target xs r)) (target ys r)
    go true = refl
    go false = refl
target-append (add v ∷ xs) ys r = target-append xs ys r

pub lists-append : (xs ys : List Entry) (r : ℕ) → lists (xs ++ ys) r ≡ (lists xs r || lists ys r)
lists-append [] ys r = refl
lists-append (alter q t ∷ xs) ys r = rw (lists-append xs ys r) (sym (or_assoc (eqb q r) (lists xs r) (lists ys r)))
lists-append (add v ∷ xs) ys r = lists-append xs ys r

pub row_changes-append : (g : ℕ → Option ℕ → ℕ) (xs ys : List Entry) → row_changes g (xs ++ ys) ≡ row_changes g xs ++ row_changes g ys
row_changes-append g [] ys = refl
row_changes-append g (alter r t ∷ xs) ys = rw (row_changes-append g xs ys)
row_changes-append g (add v ∷ xs) ys = row_changes-append g xs ys

pub inserts-append : (xs ys : List Entry) → inserts (xs ++ ys) ≡ inserts xs ++ inserts ys
inserts-append [] ys = refl
inserts-append (alter r t ∷ xs) ys = inserts-append xs ys
inserts-append (add v ∷ xs) ys = rw (inserts-append xs ys)

-- "A second change of a row replaces the entry where it stands.": a row that is not listed goes to the end, one that stands
-- first at i stays there
pub put-new : (es : List Entry) (r : ℕ) (t : Option ℕ) → lists es r ≡ false → put es r t ≡ es ++ (alter r t ∷ [])
put-new [] r t e = refl
put-new (alter q u ∷ es) r t e = let p = or_parts (eqb q r) (lists es r) e in rw (p.0, put-new es r t p.1)
put-new (add v ∷ es) r t e = rw (put-new es r t e)

pub put-there : (es : List Entry) (i r : ℕ) (t u : Option ℕ) (d : Entry) → i < length es → get_or es i d ≡ alter r u
    → lists (take i es) r ≡ false
    → put es r t ≡ set es i (alter r t)
put-there [] i r t u d l g e = absurd (omega arith)
put-there (x ∷ es) zero r t u d l g e = rw (g, eq-eqb r r refl)
put-there (alter q w ∷ es) (suc i) r t u d l g e =
    let p = or_parts (eqb q r) (lists (take i es) r) e in
    rw (p.0, put-there es i r t u d (omega arith) g p.1)
put-there (add v ∷ es) (suc i) r t u d l g e = rw (put-there es i r t u d (omega arith) g e)

-- ---- counting

-- one number more
pub count-more : (f : ℕ → Bool) (n : ℕ) → count_below f (n + 1) ≡ count_below f n + cond (f n) 1 0
unfolding count_below
count-more f n = ap (count_below f) (add-one n)
