-- An open session of undamaged tables: what it means, and what its list says of a row.
use mathlib.Core.Path.{◌≡◌, refl, sym, ap, ap₂, subst, ◌∙◌}
use mathlib.Core.Bool.{Bool, true, false, cond}
use mathlib.Core.Option.{Option, none, some, map}
use mathlib.Core.List.{List, [], ◌∷◌}
use mathlib.Core.Logic.{◌⊎◌, inl, inr}
use Prim.Native.Nat.{ℕ, zero, suc, ◌≤◌, ◌<◌}
use native.Mathlib.Omega.{arith}
use borrow.Author.Tests.{ne_eqb}
use lib.ListN.{get_or}
use Rattle.bits.proofs.Cases.{eq-cases}
use Rattle.bits.specs.Choice.{or_else}
use Rattle.bits.specs.Rows.{smallest_below}
use Rattle.bits.proofs.RowLaws.{smallest-some}
use Rattle.bits.specs.Tab.{tab}
use Rattle.rules.specs.State.{session, start_of, rows_of, list_of, opened, Entry}
use Rattle.rules.specs.Lists.{target, lists}
use Rattle.rules.proofs.ListLaws.{is_given, lists-target}
use Rattle.rules.proofs.Shapes.{target-append}
use Rattle.tables.specs.declared.session.Session.{Session}
use Rattle.tables.specs.Cells.{Tables, values_in, first_in, stamp_in}
use Rattle.tables.specs.Sessions.{session_at}
use Rattle.tables.specs.Meaning.{target_of, entry_at, entries, session_of, meaning}
use Rattle.tables.proofs.Facts.{parts}
use Rattle.tables.proofs.Sessions.{OpenFacts, open_at}
use Rattle.tables.proofs.Means.{open-means}
use Rattle.lent.specs.declared.seats.Seat.{Seat}
use Rattle.outcomes.specs.Calls.{or_place, spot_of}
use Rattle.outcomes.specs.Enter.{opened_by}
use Rattle.outcomes.specs.Opened.{Usable, OpenIn}
use Rattle.outcomes.proofs.Entered.{opened-passed, seat-means, seat-there}
use Rattle.outcomes.proofs.ListLaws.{has_row, entry_new, entry_row}

-- ---- what a core that the session is open for knows of the number tables and of the session

pub opened-usable : (clock slots words heads log changes : List ℕ) (x : Seat) (n : ℕ)
    → none ≡ opened_by clock slots words heads log changes x n → Usable clock slots words heads log changes x.session
opened-usable clock slots words heads log changes x n q =
    let p = opened-passed clock slots words heads log changes x n q in
    record { room = p.room; good = p.good; start-old = p.start-old; rows_few = p.rows_few; count_low = p.count_low }

-- ---- what it means

module _ (t : Tables) (n : ℕ) (x : Session) (o : OpenIn t n x) where
  pub open-session : session (meaning t) n ≡ opened x.start.0 x.rows.0 (entries x)
  open-session = seat-means t n ∙ ap session_of o.own-there ∙ open-means x o.live-one

  pub open-start : start_of (session (meaning t) n) ≡ x.start.0
  open-start = ap start_of open-session

  pub open-rows : rows_of (session (meaning t) n) ≡ x.rows.0
  open-rows = ap rows_of open-session

  pub open-list : list_of (session (meaning t) n) ≡ entries x
  open-list = ap list_of open-session

  there : session_at t.sessions n ≡ x
  there = sym (seat-there t n o.place-low) ∙ o.own-there

  pub open-facts : OpenFacts (values_in t.clock) (first_in t.clock) (stamp_in t.clock) t.log x
  open-facts =
      subst (OpenFacts (values_in t.clock) (first_in t.clock) (stamp_in t.clock) t.log) there
      (open_at t.clock t.log t.sessions (parts t o.good).sessions-fit n o.place-low
      (ap (λ (y : Session). y.live) there ∙ o.live-one))

-- ---- a row in its list: its target and its place

module _ (x : Session) (row : ℕ) (low : row < 65535) where
  abbrev target_at : ℕ → Option ℕ
  target_at i = target_of (get_or x.to i 0)

  map-or_else : (a b : Option ℕ) → map target_at (or_else a b) ≡ or_else (map target_at a) (map target_at b)
  map-or_else none b = refl
  map-or_else (some i) b = refl

  map-cond : (b : Bool) (i : ℕ) → cond b (some (target_at i)) none ≡ map target_at (cond b (some i) none)
  map-cond true i = refl
  map-cond false i = refl

  one_entry : (i : ℕ) → target (entry_at x i ∷ []) row ≡ map target_at (cond (has_row x row i) (some i) none)
  one_entry i = go (eq-cases (get_or x.at i 0) 65535)
    where
      go : (get_or x.at i 0 ≡ 65535) ⊎ (get_or x.at i 0 ≡ 65535 → ⊥)
          → target (entry_at x i ∷ []) row ≡ map target_at (cond (has_row x row i) (some i) none)
      go (inl e) =
          ap (λ (y : Entry). target (y ∷ []) row) (entry_new x i e)
          ∙ ap (λ (b : Bool). map target_at (cond b (some i) none)) (sym (ne_eqb (get_or x.at i 0) row (λ z. omega arith)))
      go (inr d) = ap (λ (y : Entry). target (y ∷ []) row) (entry_row x i d) ∙ map-cond (has_row x row i) i

  first-target : (n : ℕ) → target (tab (entry_at x) n) row ≡ map target_at (smallest_below (has_row x row) n)
  unfolding tab smallest_below
  first-target zero = refl
  first-target (suc n) =
      target-append (tab (entry_at x) n) (entry_at x n ∷ []) row ∙ ap₂ or_else (first-target n) (one_entry n)
      ∙ sym (map-or_else (smallest_below (has_row x row) n) (cond (has_row x row n) (some n) none))

  -- it stands below the count: there is its target
  module _ (l : spot_of x row < x.count) where
    pub listed-target : target (entries x) row ≡ some (target_at (spot_of x row))
    unfolding spot_of
    listed-target = go (smallest_below (has_row x row) x.count) refl l
      where
        go : (o : Option ℕ) → smallest_below (has_row x row) x.count ≡ o → or_place o x.count < x.count
            → target (entries x) row ≡ some (target_at (or_place o x.count))
        go none e h = absurd (omega arith)
        go (some i) e h = first-target x.count ∙ ap (map target_at) e

    pub listed-lists : lists (entries x) row ≡ true
    listed-lists = lists-target (entries x) row ∙ ap is_given listed-target

  -- it does not: it is not listed
  module _ (l : x.count ≤ spot_of x row) where
    unlisted-both : (target (entries x) row ≡ none) × (spot_of x row ≡ x.count)
    unfolding spot_of
    unlisted-both = go (smallest_below (has_row x row) x.count) refl l
      where
        go : (o : Option ℕ) → smallest_below (has_row x row) x.count ≡ o → x.count ≤ or_place o x.count
            → (target (entries x) row ≡ none) × (or_place o x.count ≡ x.count)
        go none e h = (first-target x.count ∙ ap (map target_at) e, refl)
        go (some i) e h = absurd (omega (arith, ((smallest-some (has_row x row) x.count i).0 e).below))

    pub unlisted-target : target (entries x) row ≡ none
    unlisted-target = unlisted-both.0

    pub unlisted-spot : spot_of x row ≡ x.count
    unlisted-spot = unlisted-both.1

    pub unlisted-lists : lists (entries x) row ≡ false
    unlisted-lists = lists-target (entries x) row ∙ ap is_given unlisted-target
