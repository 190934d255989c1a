-- Commit on the lent tables: its changes are the rules', and what each end of `commit_now` and of the core comes to.
use Rattle.std.specs.Prelude.{Result, Ok, Err}
use mathlib.Core.Path.{◌≡◌, refl, sym, ap, ap₂, ◌∙◌}
use mathlib.Core.Option.{Option, none, some}
use mathlib.Core.List.{List, [], ◌∷◌}
use Prim.Native.Nat.{ℕ, suc, ◌+◌, ◌≤◌}
use native.Mathlib.Numerals.{add-one}
use native.Mathlib.Omega.{arith}
use borrow.Author.Tests.{lt-ltb}
use lib.ListN.{length}
use Rattle.rules.specs.State.{Entry, alter, add, session}
use Rattle.rules.specs.Lists.{inserts}
use Rattle.rules.specs.Commit.{toggled, new_set, row_changes, insert_changes, commit_changes}
use Rattle.rules.proofs.Invariant.{Within, EntriesFit, SessionFits}
use Rattle.rules.specs.Calls.{commit}
use Rattle.rules.specs.Refusals.{Test, first_of, tests, list_empty, conflict, rows_full, records_full, changes_full}
use Rattle.rules.specs.State as rules
use Rattle.rules.proofs.Fits.{smallest-low}
use Rattle.tables.specs.declared.session.Session.{Session}
use Rattle.tables.specs.declared.refusal.Refusal.{Refusal}
use Rattle.tables.specs.Refusals.{number_of}
use Rattle.tables.specs.Cells.{Tables, tables, values_in, stamp_in, rows_in, end_at}
use Rattle.tables.specs.Meaning.{entries, meaning}
use Rattle.tables.proofs.Facts.{parts, clock-limits}
use Rattle.tables.proofs.Means.{values-means, rows-means}
use Rattle.tables.proofs.Undamaged.{means-undamaged}
use Rattle.history.specs.Last.{last_set}
use Rattle.history.specs.Read.{read_cells}
use Rattle.history.proofs.Meets.{flip_set-meets, read_meets}
use Rattle.lent.specs.declared.seats.Seat.{Seat}
use Rattle.outcomes.specs.declared.answers.Answer.{Answer}
use Rattle.outcomes.specs.Said.{numbers}
use Rattle.outcomes.specs.Outcome.{Outcome, outcome}
use Rattle.outcomes.specs.Stores.{stores}
use Rattle.outcomes.specs.Calls.{commit_rows, commit_stores, commit_of}
use Rattle.outcomes.specs.Seats.{freeing, Serves}
use Rattle.outcomes.specs.Enter.{opened_by}
use Rattle.outcomes.specs.Opened.{Usable, OpenIn, Settles}
use Rattle.committing.specs.Commit.{commit_tests, toggled_in, new_cells, insert_cells, CommitReady, changes_made, Committed}
use Rattle.outcomes.proofs.Entered.{opened-goes, opened-shows}
use Rattle.outcomes.proofs.Serving.{idle-freeing, freed-left, refused-outcome, accepted-outcome, opened-refused}
use Rattle.outcomes.proofs.StoreLaws.{commit-stores}
use Rattle.outcomes.proofs.OpenLaws.{open-session, open-facts}
use Rattle.committing.proofs.CommitTests.{commit-ready, commit-refusal}

-- ---- the flip sets of values below C, and the changes of a list that fits

toggled-in : (C m : ℕ) (o : Option ℕ) → C ≤ 32 → Within C o → toggled_in m o ≡ toggled m o
unfolding toggled_in toggled
toggled-in C m none h w = refl
toggled-in C m (some a) h w = rw (lt-ltb a 32 (omega arith))

rows_alike : (C n : ℕ) (f g : ℕ → Option ℕ → ℕ) (es : List Entry) → EntriesFit C n es
    → ((r : ℕ) (b : Option ℕ) → Within C b → f r b ≡ g r b) → row_changes f es ≡ row_changes g es
rows_alike C n f g [] fit h = refl
rows_alike C n f g (alter r b ∷ es) fit h = rw (h r b fit.1, rows_alike C n f g es fit.2 h)
rows_alike C n f g (add v ∷ es) fit h = rows_alike C n f g es fit.1 h

inserts-alike : (C n : ℕ) (es : List Entry) (r : ℕ) → C ≤ 32 → EntriesFit C n es
    → insert_cells r (inserts es) ≡ insert_changes r (inserts es)
unfolding toggled
inserts-alike C n [] r h fit = refl
inserts-alike C n (alter q b ∷ es) r h fit = inserts-alike C n es r h fit.2
inserts-alike C n (add v ∷ es) r h fit = rw (toggled-in C 0 (some v) h fit.0, add-one, inserts-alike C n es (suc r) h fit.1)

module _ (t : Tables) (n : ℕ) (x : Session) (o : OpenIn t n x) where
  few : values_in t.clock ≤ 32
  few = (clock-limits t.clock (parts t o.good).clock-fits).few-values

  entries_fit : EntriesFit (values_in t.clock) x.rows.0 (entries x)
  entries_fit =
      let f : SessionFits (meaning t).values (meaning t).first (meaning t).log (session (meaning t) n) =
      (means-undamaged t o.good).sessions-fit n in
      (rw (values-means t, open-session t n x o) at f).fit

  -- the new set of a row
  set-meets : (row : ℕ) (b : Option ℕ) → Within (values_in t.clock) b
      → new_cells t.slots t.words t.heads t.log t.changes (values_in t.clock) x.start.0 row b
      ≡ new_set (meaning t).values (meaning t).log (meaning t).chains x.start.0 x.start.0 row b
  unfolding new_cells read_cells
  set-meets row b w =
      let s = x.start.0 in
      let C = values_in t.clock in
      let old = (open-facts t n x o).start-old in
      let held = read_cells t.slots t.words t.heads t.log t.changes C s row in
      toggled-in C _ b few w
      ∙ ap (λ (m : ℕ). toggled m b)
      (toggled-in C (last_set t.changes 0 (end_at t.log s) row) held few (smallest-low C _)
      ∙ ap₂ toggled (flip_set-meets t o.good s old row) (read_meets t o.good s old row))

  -- the changes of the commit
  pub changes-meet : changes_made t.clock t.slots t.words t.heads t.log t.changes x ≡ commit_changes (meaning t)
      x.start.0 (entries x)
  unfolding commit_changes
  changes-meet =
      rw (
        rows_alike (values_in t.clock) x.rows.0 _ (new_set (meaning t).values (meaning t).log (meaning t).chains x.start.0
            x.start.0)
            (entries x) entries_fit set-meets,
        inserts-alike (values_in t.clock) x.rows.0 (entries x) (rows_in t.clock) few entries_fit,
        rows-means t,
      )

-- ---- the ends

module _ (clock slots words heads log changes : List ℕ) where
  abbrev lent : List Session → Tables
  lent = tables clock slots words heads log changes

  -- what an accepted commit leaves and answers
  abbrev wrote : ℕ → Tables → Outcome
  wrote n t = outcome (stores t (commit_stores t n)) [] (numbers ((stamp_in t.clock + 1) ∷ commit_rows t n ∷ []))

  module _ (x : Session) (n : ℕ) where
    pub now-refused : (why : Refusal) (d : Result Answer Refusal) → some (number_of why) ≡ first_of (commit_tests clock log changes x)
        → d ≡ Err why → Settles lent lent x n (freeing d n) d (λ t. commit_of t n)
    unfolding commit_of
    now-refused why d q k ts o =
        let t = lent ts in
        refused-outcome t [] (commit n) (wrote n t) why (freeing d n) d (commit-refusal t n x o ∙ sym q) (idle-freeing d n why k)

    module _ (q : none ≡ first_of (commit_tests clock log changes x)) where
      pub now-ready : Usable clock slots words heads log changes x → CommitReady clock slots words heads log changes x
      now-ready u = commit-ready clock slots words heads log changes x u (sym q)

      pub now-done : (clock' log' changes' : List ℕ) (a : Answer) → Committed clock slots words heads log changes x clock' log' changes' a
          → Settles lent (tables clock' slots words heads log' changes') x n (freeing (Ok a) n) (Ok a) (λ t. commit_of t n)
      unfolding commit_of
      now-done clock' log' changes' a c ts o =
          let t = lent ts in
          freed-left (tables clock' slots words heads log' changes' ts) [] n (Ok a) a o.place-low refl
          ∙ rw (c.recorded.clock-is, c.recorded.log_is, c.recorded.says, c.stored, changes-meet t n x o, ← o.own-there)
          (sym (accepted-outcome t [] (commit n) (wrote n t) (commit-refusal t n x o ∙ sym q) ∙ rw (commit-stores t n)))

  -- ---- the core

  module _ (x : Seat) (n : ℕ) where
    -- the tests that are left
    abbrev left : Tables → List Test
    left t =
        let st = meaning t in
        let y = session st n in
        list_empty y ∷ conflict st y ∷ rows_full st y ∷ records_full st ∷ changes_full st (length (rules.list_of y)) ∷ []

    pub commit-refused : (why : Refusal) (d : Result Answer Refusal)
        → some (number_of why) ≡ opened_by clock slots words heads log changes x n → d ≡ Err why
        → Serves lent lent [] x n (freeing d n) d (λ t. commit_of t n)
    unfolding commit_of tests
    commit-refused why d q k =
        opened-refused clock slots words heads log changes [] x n (commit n) (wrote n) why (freeing d n) d (idle-freeing d n why k) left
        (λ t. refl) q

    pub commit-on : (clock' log' changes' : List ℕ) (d : Result Answer Refusal) → none ≡ opened_by clock slots words heads log changes x n
        → Settles lent (tables clock' slots words heads log' changes') x.session n (freeing d n) d (λ t. commit_of t n)
        → Serves lent (tables clock' slots words heads log' changes') [] x n (freeing d n) d (λ t. commit_of t n)
    unfolding tests
    commit-on clock' log' changes' d q f ts e =
        let t = lent ts in
        let g = opened-goes t n x e (commit n) (left t) refl q in
        let s = opened-shows t n x e (commit n) (left t) refl q in
        f ts (record { room = g.room; good = g.good; place-low = s.place-low; own-there = s.own-there; live-one = s.live-one })
