-- Update, delete and insert on the lent tables: what each end of `change_row` and of the three cores comes to.
use Rattle.std.specs.Prelude.{Result, Err}
use mathlib.Core.Path.{◌≡◌, refl, sym, ◌∙◌}
use mathlib.Core.Bool.{false}
use mathlib.Core.Option.{Option, none, some}
use mathlib.Core.List.{List, [], ◌∷◌}
use Prim.Native.Nat.{ℕ, ◌≤◌, ◌<◌}
use native.Mathlib.Omega.{arith}
use borrow.Author.Tests.{le-leb, lt-leb}
use lib.Dec.{leb}
use mir.Syntax.{w8}
use mir.Val.{Fits}
use Rattle.rules.specs.State.{session, rows_of}
use Rattle.rules.specs.Lists.{target, standing}
use Rattle.rules.specs.Calls.{update, delete, insert}
use Rattle.rules.specs.Refusals.{Test, tests, no_row, row_absent, list_full_for, list_full, standing_in}
use Rattle.tables.specs.declared.refusal.Refusal.{Refusal}
use Rattle.tables.specs.declared.refusal.Refusal.TheVariants.{NoRow, RowAbsent}
use Rattle.tables.specs.Refusals.{number_of}
use Rattle.tables.specs.Cells.{Tables, tables, values_in}
use Rattle.tables.specs.Meaning.{entries, meaning}
use Rattle.tables.specs.declared.session.Session as cells
use Rattle.tables.proofs.Facts.{room-facts, parts, clock-limits}
use Rattle.history.specs.Read.{read_cells}
use Rattle.history.proofs.Meets.{read_meets}
use Rattle.history.proofs.Ready.{read-ready}
use Rattle.lent.specs.declared.seats.Seat.{Seat}
use Rattle.outcomes.specs.Outcome.{Outcome, unless}
use Rattle.outcomes.specs.Calls.{own, spot_of, listed_at, put_back, update_of, delete_of, insert_of}
use Rattle.outcomes.specs.Seats.{seat_of, list_answer, relisting, Serves}
use Rattle.outcomes.specs.Enter.{opened_by, valued_by}
use Rattle.outcomes.specs.Opened.{Usable, OpenIn, SettlesAny}
use Rattle.listing.specs.Change.{append_of, target_put, change_of, ChangesRow, Stands}
use Rattle.outcomes.proofs.Entered.{bare, opened-goes, opened-shows, valued-passed, valued-goes, valued-shows}
use Rattle.outcomes.proofs.Serving.{idle-relisting, opened-refused, valued-refused}
use Rattle.outcomes.proofs.OpenLaws.{opened-usable, open-start, open-rows, open-list, open-facts}

module _ (clock slots words heads log changes : List ℕ) where
  abbrev lent : List cells.Session → Tables
  lent = tables clock slots words heads log changes

  -- ---- 7 and 8, then the list

  module _ (x : cells.Session) (row to : ℕ) where
    -- the tests that are left, of the session that the rules see
    abbrev left : ℕ → Tables → List Test
    left n t = no_row (session (meaning t) n) row ∷ row_absent (meaning t) (session (meaning t) n) row ∷ list_full_for
        (session (meaning t) n) row ∷ []

    abbrev put : ℕ → Tables → Outcome
    put n t = put_back t n (listed_at (own t n) (spot_of (own t n) row) row to)

    abbrev stands : Option ℕ
    stands = standing (target (entries x) row) (read_cells slots words heads log changes (values_in clock) x.start.0 row)

    pub change-stands : (spot : ℕ) → Usable clock slots words heads log changes x → row < x.rows.0 → spot ≡ spot_of x row
        → Stands clock slots words heads log changes x row spot
    change-stands spot u l e =
        let t = bare clock slots words heads log changes in
        record {
          clock-room = (room-facts t u.room).clock-room;
          readable = read-ready t u.room u.good x.start.0 u.start-old;
          count_low = u.count_low;
          row_low = omega (arith, u.rows_few);
          spot_is = e;
        }

    abbrev Changes : Result cells.Session Refusal → Type 0
    Changes d = ChangesRow lent x row to d

    pub change-no-row : x.rows.0 ≤ row → Changes (Err NoRow)
    unfolding change_of unless
    change-no-row l n ts o = sym (rw (open-rows (lent ts) n x o, le-leb x.rows.0 row l))

    module _ (l : row < x.rows.0) where
      -- 7 fails
      has-row : (n : ℕ) (t : Tables) → OpenIn t n x → leb (rows_of (session (meaning t) n)) row ≡ false
      has-row n t o = rw (open-rows t n x o) (lt-leb x.rows.0 row l)

      -- 8 is judged alike
      judged : (held : Option ℕ) → held ≡ stands → (n : ℕ) (ts : List cells.Session) → OpenIn (lent ts) n x
          → standing_in (meaning (lent ts)) (session (meaning (lent ts)) n) row ≡ held
      judged held h n ts o =
          let t = lent ts in
          let old = (open-facts t n x o).start-old in
          rw (open-list t n x o, open-start t n x o, ← read_meets t o.good x.start.0 old row, h)

      pub change-absent : none ≡ stands → Changes (Err RowAbsent)
      unfolding change_of unless
      change-absent h n ts o = sym (rw (has-row n (lent ts) o, judged none h n ts o))

      pub change-on : (v : ℕ) (d : Result cells.Session Refusal) → some v ≡ stands
          → SettlesAny x (relisting d) (list_answer d) (λ t m. target_put t m row to) → Changes d
      unfolding change_of target_put
      change-on v d h f n ts o = f n (lent ts) o ∙ sym (rw (has-row n (lent ts) o, judged (some v) h n ts o))

  -- ---- the cores: with 4, 5 and 6

  module _ (x : Seat) (n v : ℕ) where
    abbrev Updates : ℕ → Result cells.Session Refusal → Type 0
    Updates row d = Serves lent lent [] x n (relisting d n) (list_answer d) (λ t. update_of t n row v)

    abbrev Inserts : Result cells.Session Refusal → Type 0
    Inserts d = Serves lent lent [] x n (relisting d n) (list_answer d) (λ t. insert_of t n v)

    module _ (why : Refusal) (q : some (number_of why) ≡ valued_by clock slots words heads log changes x n v) where
      pub update-refused : (row : ℕ) → Updates row (Err why)
      unfolding update_of tests
      update-refused row =
          valued-refused clock slots words heads log changes [] x n (update n row v) (put x.session row v n) why (relisting (Err why) n)
          (Err why) (idle-relisting (Err why) n why refl) (left x.session row v n) v (λ t. refl) q

      pub insert-refused : Inserts (Err why)
      unfolding insert_of tests
      insert-refused =
          valued-refused clock slots words heads log changes [] x n (insert n v)
          (λ t. put_back t n (listed_at (own t n) (own t n).count 65535 v)) why (relisting (Err why) n)
          (Err why) (idle-relisting (Err why) n why refl) (λ t. list_full (session (meaning t) n) ∷ []) v (λ t. refl) q

    module _ (q : none ≡ valued_by clock slots words heads log changes x n v) where
      pub valued-usable : Usable clock slots words heads log changes x.session
      valued-usable =
          let p = valued-passed clock slots words heads log changes x n v q in
          record { room = p.room; good = p.good; start-old = p.start-old; rows_few = p.rows_few; count_low = p.count_low }

      pub value-byte : Fits w8 v
      value-byte =
          let p = valued-passed clock slots words heads log changes x n v q in
          omega (
            arith,
            p.value_low,
            (clock-limits clock (parts (bare clock slots words heads log changes)
                p.good).clock-fits).few-values,
          )

      valued-open : (ts : List cells.Session) → x ≡ seat_of (lent ts) n → OpenIn (lent ts) n x.session
      unfolding tests
      valued-open ts e =
          let t = lent ts in
          let rest = list_full (session (meaning t) n) ∷ [] in
          let g = valued-goes t n x e (insert n v) rest v refl q in
          let s = valued-shows t n x e (insert n v) rest v refl q in
          record { room = g.room; good = g.good; place-low = s.place-low; own-there = s.own-there; live-one = s.live-one }

      pub update-on : (row : ℕ) (d : Result cells.Session Refusal) → ChangesRow lent x.session row v d → Updates row d
      unfolding update_of change_of tests
      update-on row d f ts e =
          let t = lent ts in
          f n ts (valued-open ts e)
          ∙ rw (valued-goes t n x e (update n row v) (left x.session row v n t) v refl q).rest-decides

      pub insert-on : (d : Result cells.Session Refusal)
          → SettlesAny x.session (relisting d) (list_answer d) (λ t m. append_of t m 65535 v) → Inserts d
      unfolding insert_of append_of tests
      insert-on d f ts e =
          let t = lent ts in
          f n t (valued-open ts e)
          ∙ rw (valued-goes t n x e (insert n v) (list_full (session (meaning t) n) ∷ []) v refl q).rest-decides

  -- ---- with 4 and 5

  module _ (x : Seat) (n row : ℕ) where
    abbrev Deletes : Result cells.Session Refusal → Type 0
    Deletes d = Serves lent lent [] x n (relisting d n) (list_answer d) (λ t. delete_of t n row)

    pub delete-refused : (why : Refusal) → some (number_of why) ≡ opened_by clock slots words heads log changes x n → Deletes (Err why)
    unfolding delete_of tests
    delete-refused why q =
        opened-refused clock slots words heads log changes [] x n (delete n row) (put x.session row 255 n) why (relisting (Err why) n)
        (Err why) (idle-relisting (Err why) n why refl) (left x.session row 255 n) (λ t. refl) q

    pub delete-on : none ≡ opened_by clock slots words heads log changes x n → (d : Result cells.Session Refusal)
        → ChangesRow lent x.session row 255 d → Deletes d
    unfolding delete_of change_of tests
    delete-on q d f ts e =
        let t = lent ts in
        let rest = left x.session row 255 n t in
        let g = opened-goes t n x e (delete n row) rest refl q in
        let s = opened-shows t n x e (delete n row) rest refl q in
        f n ts (record { room = g.room; good = g.good; place-low = s.place-low; own-there = s.own-there; live-one = s.live-one })
        ∙ rw g.rest-decides

-- what update stands on
pub ruleset updates = (update-refused, valued-usable, value-byte, update-on)

-- insert
pub ruleset inserts = (insert-refused, value-byte, insert-on)

-- and delete
pub ruleset deletes = (delete-refused, opened-usable, delete-on)
