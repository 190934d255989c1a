-- A session's list step by step: where a row stands, what an entry is, and what one entry more adds to the rows and the inserts.
use mathlib.Core.Path.{◌≡◌, refl, sym, ap, ◌∙◌}
use mathlib.Core.Bool.{Bool}
use mathlib.Core.Option.{Option, none, some}
use mathlib.Core.List.{List, [], ◌∷◌, ◌++◌, append-nil}
use Prim.Native.Nat.{ℕ, ◌+◌, ◌≤◌, ◌<◌}
use native.Mathlib.Omega.{arith}
use borrow.Author.Tests.{eq-eqb, ne_eqb}
use lib.Dec.{eqb}
use lib.ListN.{length, get_or, length-append}
use Rattle.bits.specs.Rows.{smallest_below}
use Rattle.bits.proofs.RowLaws.{smallest-zero, smallest-here, smallest-past}
use Rattle.bits.specs.Tab.{tab}
use Rattle.bits.proofs.TabLaws.{tab-more}
use Rattle.rules.specs.State.{Entry, alter, add}
use Rattle.rules.specs.Lists.{inserts}
use Rattle.rules.specs.Commit.{row_changes}
use Rattle.rules.proofs.Shapes.{row_changes-append, inserts-append}
use Rattle.tables.specs.declared.session.Session.{Session}
use Rattle.tables.specs.Meaning.{target_of, entry_at, entries}
use Rattle.tables.proofs.Fits.{entry-add, entry-alter, target-some, target_none}
use Rattle.outcomes.specs.Calls.{or_place, spot_of}

-- ---- where a row stands: the search for it has passed i entries

module _ (x : Session) (row : ℕ) where
  -- whether entry k has the row
  abbrev pub has_row : ℕ → Bool
  has_row k = eqb (get_or x.at k 0) row

  pub spot-start : smallest_below has_row 0 ≡ none
  spot-start = smallest-zero has_row

  module _ (i : ℕ) (e : smallest_below has_row i ≡ none) where
    pub spot-here : (n a : ℕ) → n ≡ x.count → i < n → a ≡ get_or x.at i 0 → a ≡ row → i ≡ spot_of x row
    unfolding spot_of
    spot-here n a p l q r =
        sym (ap (λ (o : Option ℕ). or_place o x.count)
        (smallest-here has_row x.count i e (eq-eqb (get_or x.at i 0) row (sym q ∙ r)) (omega arith)))

    pub spot_past : (a : ℕ) → a ≡ get_or x.at i 0 → (a ≡ row → ⊥) → smallest_below has_row (i + 1) ≡ none
    spot_past a q d = smallest-past has_row i e (ne_eqb (get_or x.at i 0) row (λ z. d (q ∙ z)))

    pub spot-none : (n : ℕ) → n ≡ x.count → n ≤ i → i ≤ n → n ≡ spot_of x row
    unfolding spot_of
    spot-none n p l m =
        let z : i ≡ x.count = omega arith in
        p ∙ sym (ap (λ (o : Option ℕ). or_place o x.count) (ap (smallest_below has_row) (sym z) ∙ e))

-- ---- one entry more

module _ (x : Session) (i : ℕ) where
  -- the entries before it, and with it
  abbrev pub before : List Entry
  before = tab (entry_at x) i

  abbrev pub with : List Entry
  with = tab (entry_at x) (i + 1)

  -- an insert
  module _ (new : get_or x.at i 0 ≡ 65535) where
    pub entry_new : entry_at x i ≡ add (get_or x.to i 0)
    unfolding entry_at
    entry_new = entry-add (get_or x.at i 0) (get_or x.to i 0) new

    with-new : with ≡ before ++ (add (get_or x.to i 0) ∷ [])
    with-new = tab-more (entry_at x) i ∙ ap (λ (e : Entry). before ++ (e ∷ [])) entry_new

    pub inserts-new : inserts with ≡ inserts before ++ (get_or x.to i 0 ∷ [])
    inserts-new = ap inserts with-new ∙ inserts-append before (add (get_or x.to i 0) ∷ [])

    pub rows_new : (g : ℕ → Option ℕ → ℕ) → row_changes g with ≡ row_changes g before
    rows_new g = ap (row_changes g) with-new ∙ row_changes-append g before (add (get_or x.to i 0) ∷ []) ∙ append-nil (row_changes g before)

  -- a row with its target
  module _ (old : get_or x.at i 0 ≡ 65535 → ⊥) where
    pub entry_row : entry_at x i ≡ alter (get_or x.at i 0) (target_of (get_or x.to i 0))
    unfolding entry_at
    entry_row = entry-alter (get_or x.at i 0) (get_or x.to i 0) old

    with_row : with ≡ before ++ (alter (get_or x.at i 0) (target_of (get_or x.to i 0)) ∷ [])
    with_row = tab-more (entry_at x) i ∙ ap (λ (e : Entry). before ++ (e ∷ [])) entry_row

    pub inserts-row : inserts with ≡ inserts before
    inserts-row =
        ap inserts with_row ∙ inserts-append before (alter (get_or x.at i 0) (target_of (get_or x.to i 0)) ∷ [])
        ∙ append-nil (inserts before)

    pub rows_row : (g : ℕ → Option ℕ → ℕ)
        → row_changes g with ≡ row_changes g before
        ++ (record { row = get_or x.at i 0; flips = g (get_or x.at i 0) (target_of (get_or x.to i 0)) } ∷ [])
    rows_row g = ap (row_changes g) with_row ∙ row_changes-append g before (alter (get_or x.at i 0) (target_of (get_or x.to i 0)) ∷ [])

-- ---- how many inserts the first i entries have

module _ (x : Session) where
  pub counted_none : 0 ≡ length (inserts (tab (entry_at x) 0))
  unfolding tab
  counted_none = refl

  module _ (i k : ℕ) (e : k ≡ length (inserts (tab (entry_at x) i))) where
    pub counted-new : (k' : ℕ) → k' ≡ k + 1 → get_or x.at i 0 ≡ 65535 → k' ≡ length (inserts (tab (entry_at x) (i + 1)))
    counted-new k' q new =
        q ∙ sym (ap length (inserts-new x i new) ∙ length-append (inserts (tab (entry_at x) i)) (get_or x.to i 0 ∷ [])
        ∙ ap (λ (n : ℕ). n + 1) (sym e))

    pub counted-row : (k' : ℕ) → k' ≡ k → (get_or x.at i 0 ≡ 65535 → ⊥) → k' ≡ length (inserts (tab (entry_at x) (i + 1)))
    counted-row k' q old = q ∙ e ∙ sym (ap length (inserts-row x i old))

    pub counted-all : (n : ℕ) → n ≡ x.count → n ≤ i → i ≤ n → k ≡ length (inserts (entries x))
    counted-all n p l m = let z : i ≡ x.count = omega arith in e ∙ ap (λ (j : ℕ). length (inserts (tab (entry_at x) j))) z
