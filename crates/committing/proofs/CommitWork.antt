-- A commit that is not refused: what its parts need, and what they leave together.
use mathlib.Core.Path.{◌≡◌, refl, sym, ap, ◌∙◌}
use mathlib.Core.List.{List, [], ◌∷◌}
use mathlib.Core.Option.{Option}
use Prim.Native.Nat.{ℕ, ◌+◌, ◌≤◌, ◌<◌}
use native.Mathlib.Omega.{arith}
use lib.ListN.{length}
use mir.Syntax.{w32}
use mir.Val.{Fits}
use Rattle.rules.specs.State.{Entry, alter, add}
use Rattle.rules.specs.Lists.{inserts}
use Rattle.rules.specs.Commit.{row_changes}
use Rattle.tables.specs.declared.session.Session.{Session}
use Rattle.tables.specs.declared.clock.Clock.{Clock}
use Rattle.tables.specs.Cells.{Tables, values_in, stamp_in, changes_in}
use Rattle.tables.specs.Clock.{clock_in}
use Rattle.tables.specs.Meaning.{entries}
use Rattle.tables.proofs.Facts.{Room, room-facts, parts, ClockLimits, clock-limits, end-high}
use Rattle.tables.proofs.Means.{length-entries}
use Rattle.history.proofs.Ready.{read-ready}
use Rattle.outcomes.specs.declared.answers.Answer.{Answer}
use Rattle.outcomes.specs.Stores.{put_changes}
use Rattle.committing.specs.Commit.{new_cells, insert_cells, RowsReady, RowsStored, InsertsReady, Recorded, CommitReady}
use Rattle.committing.specs.Commit.{changes_made, Committed}
use Rattle.outcomes.proofs.Entered.{bare}
use Rattle.outcomes.proofs.StoreLaws.{length-changes, changes-append}

-- a change for each entry: each is a row or an insert
pub rows-inserts : (g : ℕ → Option ℕ → ℕ) (es : List Entry) → length (row_changes g es) + length (inserts es) ≡ length es
rows-inserts g [] = refl
rows-inserts g (alter r t ∷ es) = omega (arith, rows-inserts g es)
rows-inserts g (add v ∷ es) = omega (arith, rows-inserts g es)

module _ (clock slots words heads log changes : List ℕ) (x : Session) (ready : CommitReady clock slots words heads log changes x) where
  abbrev t : Tables
  t = bare clock slots words heads log changes

  abbrev sets : ℕ → Option ℕ → ℕ
  sets = new_cells slots words heads log changes (values_in clock) x.start.0

  room : Room t
  room = room-facts t ready.usable.room

  limits : ClockLimits clock
  limits = clock-limits clock (parts t ready.usable.good).clock-fits

  every : length (row_changes sets (entries x)) + length (inserts (entries x)) ≡ x.count
  every = rows-inserts sets (entries x) ∙ length-entries x

  pub work-clock : 6 ≤ length clock
  work-clock = room.clock-room

  pub work-log : 2048 ≤ length log
  work-log = room.log-room

  pub work-stamp : stamp_in clock < 512
  work-stamp = ready.stamp-low

  -- where the changes start
  module _ (used from : ℕ) (p : used ≡ changes_in clock) (q : from ≡ used) where
    pub work-rows : RowsReady clock slots words heads log changes x from
    work-rows =
        let u = ready.usable in
        let readable = read-ready t u.room u.good x.start.0 u.start-old in
        let old = end-high clock log (parts t u.good).records-fit x.start.0 u.start-old in
        search (room, arith)

    -- the rows are written up to place e
    module _ (c : Clock) (k : c ≡ clock_in clock) (changes₁ : List ℕ) (e : ℕ)
        (s : RowsStored sets x from changes changes₁ x.count e) where
      pub work-inserts : InsertsReady changes₁ x e c.rows.0
      unfolding clock_in
      work-inserts = record {
        changes-room = omega (arith, room.changes-room, ap length s.stored, length-changes changes from (row_changes sets (entries x)));
        count_low = ready.usable.count_low;
        rows-low = rw k limits.few-rows;
        places-low = omega (arith, s.place, every, ready.places-low);
      }

      pub work-changes : (changes₂ : List ℕ) → changes₂ ≡ put_changes changes₁ e (insert_cells c.rows.0 (inserts (entries x)))
          → changes₂ ≡ put_changes changes (changes_in clock) (changes_made clock slots words heads log changes x)
      unfolding clock_in
      work-changes changes₂ w = rw (w, s.stored, s.place, k, q, p)
          (sym (changes-append changes (changes_in clock) (row_changes sets (entries x)) _))

  -- its record and its changes
  pub work-done : (c : Clock) (used m : ℕ) (clock' log' changes' : List ℕ) (a : Answer) → c ≡ clock_in clock → used ≡ changes_in clock
      → m ≡ length (inserts (entries x)) → changes' ≡ put_changes changes (changes_in clock)
      (changes_made clock slots words heads log changes x)
      → Recorded clock log (c.rows.0 + m) (used + x.count) clock' log' a
      → Committed clock slots words heads log changes x clock' log' changes' a
  unfolding clock_in
  work-done c used m clock' log' changes' a k p u w r = record { recorded = rw (k, u, p) at r; stored = w }

  -- the row count after it is small
  pub work-rows-few : (c : Clock) (m : ℕ) → c ≡ clock_in clock → m ≡ length (inserts (entries x)) → Fits w32 (c.rows.0 + m)
  unfolding clock_in
  work-rows-few c m k u = rw k (omega (arith, limits.few-rows, every, ready.usable.count_low))
