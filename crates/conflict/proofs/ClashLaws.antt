-- The search for a clash: the later changes as one stretch; and step by step the records from one on, and in each the entries from one on.
use mathlib.Core.Path.{◌≡◌, refl, sym, ap, ap₂, ◌∙◌}
use mathlib.Core.Bool.{Bool, false, ◌||◌, or_assoc, or-false}
use mathlib.Core.List.{List}
use Prim.Native.Nat.{ℕ, zero, suc, ◌+◌, ◌-◌, ◌≤◌, ◌<◌}
use native.Mathlib.Numerals.{add-one}
use native.Mathlib.Omega.{arith}
use lib.Dec.{eqb}
use lib.ListN.{get_or}
use Rattle.std.specs.List.{list_any, range_with_len}
use Rattle.bits.specs.Tab.{tab}
use Rattle.rules.specs.State.{Change, Record, Entry}
use Rattle.rules.specs.Log.{above, names}
use Rattle.rules.specs.Commit.{conflicts}
use Rattle.rules.proofs.Shapes.{some_of, hits, hits_list, conflict-by-entries, conflict-by-records}
use Rattle.tables.specs.declared.session.Session.{Session}
use Rattle.tables.specs.Cells.{end_at}
use Rattle.tables.specs.Stretch.{stretch}
use Rattle.tables.specs.Meaning.{change_at, record_at, entry_at, entries}
use Rattle.tables.proofs.Stretch.{stretch-none, stretch-front, tab-stretch, drop-tab}
use Rattle.tables.proofs.Fits.{entry-add, entry-alter}
use Rattle.conflict.specs.Searched.{Searched}

-- ---- one entry

module _ (cs : List Change) (x : Session) (i : ℕ) where
  pub insert-unnamed : get_or x.at i 0 ≡ 65535 → false ≡ hits cs (entry_at x i)
  unfolding entry_at
  insert-unnamed new = sym (ap (hits cs) (entry-add (get_or x.at i 0) (get_or x.to i 0) new))

  pub row_named : (at : ℕ) (r : Bool) → (get_or x.at i 0 ≡ 65535 → ⊥) → at ≡ get_or x.at i 0 → r ≡ names cs at → r ≡ hits cs (entry_at x i)
  unfolding entry_at
  row_named at r old e q = q ∙ ap (names cs) e ∙ sym (ap (hits cs) (entry-alter (get_or x.at i 0) (get_or x.to i 0) old))

-- ---- one row, by a fold: the whole is what was found so far and the rest

module _ (changes : List ℕ) (row : ℕ) (w any : Bool) (p to : ℕ) (e : w ≡ any || names (stretch (change_at changes) p to) row) where
  pub row-again : p < to → w ≡ (any || eqb (get_or changes p 0) row) || names (stretch (change_at changes) (p + 1) to) row
  row-again h =
      e ∙ rw (stretch-front (change_at changes) p to h, add-one)
      (sym (or_assoc any (eqb (get_or changes p 0) row) (names (stretch (change_at changes) (suc p) to) row)))

  pub row-end : to ≤ p → any ≡ w
  row-end h = sym (e ∙ rw (stretch-none (change_at changes) p to h) (or-false any))

-- ---- a scan of places

-- as the code asks for it
pub some-any : {A : Type 0} (p : A → Bool) (f : ℕ → A) (n a b : ℕ) → b - a ≡ n
    → list_any (λ k. p (f k)) (range_with_len a n) ≡ some_of p (stretch f a b)
some-any p f zero a b e = rw (stretch-none f a b (omega arith))
some-any p f (suc n) a b e =
    rw (stretch-front f a b (omega arith), ← (add-one a))
    (ap (λ (t : Bool). p (f a) || t) (some-any p f n (a + 1) b (omega arith)))

-- the whole is what the elements from i on say

module _ {A : Type 0} (p : A → Bool) (f : ℕ → A) (i n : ℕ) (w : Bool) (e : w ≡ some_of p (stretch f i n)) where
  pub some-ended : n ≤ i → false ≡ w
  some-ended h = sym (e ∙ ap (some_of p) (stretch-none f i n h))

  module _ (b : Bool) (h : i < n) (q : b ≡ p (f i)) where
    front : w ≡ b || some_of p (stretch f (i + 1) n)
    front = e ∙ rw (stretch-front f i n h, add-one, q)

    pub some-on : b ≡ false → w ≡ some_of p (stretch f (i + 1) n)
    some-on z = rw z at front

-- whether the changes name the row of an entry from i to n
abbrev pub entries_hit : List Change → Session → ℕ → ℕ → Bool
entries_hit cs x i n = some_of (hits cs) (stretch (entry_at x) i n)

-- whether a record names a listed row
abbrev pub named : Session → Record → Bool
named x r = hits_list (entries x) r.changes

-- whether one of the records from stamp k on does
abbrev pub records_hit : List ℕ → List ℕ → Session → ℕ → ℕ → Bool
records_hit log changes x k last = some_of (named x) (stretch (record_at log changes) k last)

-- ---- the search, record by record

-- the list is the entries from 0 on
listed : (x : Session) (n : ℕ) → n ≡ x.count → entries x ≡ stretch (entry_at x) 0 n
listed x n e = tab-stretch (entry_at x) x.count ∙ ap (stretch (entry_at x) 0) (sym e)

module _ (log changes : List ℕ) (x : Session) where
  pub entries-start : (k from to n : ℕ) → from ≡ end_at log k → to ≡ end_at log (k + 1) → n ≡ x.count
      → named x (record_at log changes k) ≡ entries_hit (stretch (change_at changes) from to) x 0 n
  unfolding record_at
  entries-start k from to n p q r =
      ap₂ (λ (es : List Entry) (cs : List Change). hits_list es cs) (listed x n r)
      (ap₂ (stretch (change_at changes)) (sym p) (sym (q ∙ ap (end_at log) (add-one k))))

  module _ (k last : ℕ) (w : Bool) (e : w ≡ records_hit log changes x k last) where
    pub records-ended : (found : Bool) → last ≤ k → found ≡ false → found ≡ w
    records-ended found h z = z ∙ some-ended (named x) (record_at log changes) k last w e h

    module _ (cs : List Change) (i n : ℕ) (l : k < last) (s : named x (record_at log changes k) ≡ entries_hit cs x i n) where
      -- the entries of a record have ended, and the records go on
      pub records-on : n ≤ i → w ≡ records_hit log changes x (k + 1) last
      records-on h =
          some-on (named x) (record_at log changes) k last w e _ l refl (sym (some-ended (hits cs) (entry_at x) i n _ s h))

  module _ (last : ℕ) (s : Searched log changes x last) where
    abbrev clashes : Bool
    clashes = conflicts (tab (record_at log changes) last) x.start.0 (entries x)

    pub records-start : clashes ≡ records_hit log changes x x.start.0 last
    unfolding above
    records-start =
        conflict-by-records (tab (record_at log changes) last) x.start.0 (entries x)
        ∙ ap (some_of (named x)) (drop-tab (record_at log changes) x.start.0 last s.start-old)

    -- ---- the search at one go

    pub whole-named : (from to n : ℕ) (b : Bool) → from ≡ end_at log x.start.0 → to ≡ end_at log last → n ≡ x.count
        → b ≡ entries_hit (stretch (change_at changes) from to) x 0 n → b ≡ clashes
    whole-named from to n b p q o e =
        e
        ∙ sym
        (conflict-by-entries (tab (record_at log changes) last) x.start.0 (entries x)
        ∙ ap₂ (λ (es : List Entry) (cs : List Change). hits_list es cs) (listed x n o)
        (s.one-stretch ∙ ap₂ (stretch (change_at changes)) (sym p) (sym q)))
