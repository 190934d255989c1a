-- The refusals of commit on the cells: what their tests need, what they leave, and that the rules judge alike.
use mathlib.Core.Path.{◌≡◌, refl, sym, ap, ◌∙◌}
use mathlib.Core.Bool.{false}
use mathlib.Core.Option.{none}
use mathlib.Core.List.{List, [], ◌∷◌}
use Prim.Native.Nat.{ℕ, ◌+◌}
use native.Mathlib.Omega.{arith}
use borrow.Author.Tests.{lt-leb, leb-false, ltb-false}
use lib.Dec.{eqb, leb, eqb-suc-zero}
use lib.ListN.{length}
use mir.Syntax.{w32}
use mir.Val.{Fits}
use Rattle.rules.specs.Limits.{max_sessions, max_rows, max_records, max_changes}
use Rattle.rules.specs.State.{Log}
use Rattle.rules.specs.Log.{above, changes_of}
use Rattle.rules.specs.Lists.{inserts}
use Rattle.rules.specs.Calls.{commit}
use Rattle.rules.specs.Refusals.{first_of, tests, is_empty}
use Rattle.rules.proofs.Tests.{all-fail}
use Rattle.tables.specs.declared.clock.Clock.{Clock}
use Rattle.tables.specs.Cells.{Tables, stamp_in, changes_in, end_at}
use Rattle.tables.specs.Clock.{clock_in}
use Rattle.tables.specs.Meaning.{change_at, entries}
use Rattle.tables.specs.Stretch.{stretch}
use Rattle.tables.specs.declared.session.Session as cells
use Rattle.tables.proofs.Facts.{room-facts, parts, clock-limits, last_end, end-high}
use Rattle.tables.proofs.Means.{rows-means, log-means, above-means, stamp-means, changes-means, length-entries}
use Rattle.outcomes.specs.Outcome.{refusal_at}
use Rattle.outcomes.specs.Opened.{Usable, OpenIn}
use Rattle.committing.specs.Commit.{CommitAsked, commit_tests, CommitReady}
use Rattle.outcomes.proofs.Entered.{bare}
use Rattle.committing.proofs.CommitWork.{rows-inserts}
use Rattle.outcomes.proofs.OpenLaws.{open-session}

-- ---- what the tests need

pub ready-rows-few : (clock log changes : List ℕ) (x : cells.Session) → CommitAsked clock log changes x → (k : Clock) → k ≡ clock_in clock
    → (m : ℕ) → m ≡ length (inserts (entries x)) → Fits w32 (k.rows.0 + m)
unfolding clock_in
ready-rows-few clock log changes x asks k is m u =
    rw is (omega (arith, asks.rows_few, rows-inserts (λ r o. 0) (entries x), length-entries x, asks.searched.count_low))

-- ---- what the tests leave

module _ (clock slots words heads log changes : List ℕ) (x : cells.Session) (u : Usable clock slots words heads log changes x) where
  pub commit-asked : CommitAsked clock log changes x
  commit-asked =
      let t = bare clock slots words heads log changes in
      let r = room-facts t u.room in
      let p = parts t u.good in
      let l = clock-limits clock p.clock-fits in
      record {
        clock-room = r.clock-room;
        rows_few = l.few-rows;
        changes-few = l.few-changes;
        searched = record {
          log-room = r.log-room;
          changes-room = r.changes-room;
          last-low = l.few-records;
          count_low = u.count_low;
          ends_low = λ k h. omega (arith, end-high clock log p.records-fit k h, l.few-changes);
          start-old = u.start-old;
          one-stretch =
              ap (λ (g : Log). changes_of (above g x.start.0)) (sym (log-means t))
              ∙ above-means t p.records-fit x.start.0 u.start-old
              ∙ ap (stretch (change_at changes) (end_at log x.start.0)) (sym (last_end clock log p.records-fit));
        };
      }

  pub commit-ready : first_of (commit_tests clock log changes x) ≡ none → CommitReady clock slots words heads log changes x
  unfolding commit_tests
  commit-ready e =
      let f = all-fail (commit_tests clock log changes x) e in
      record {
        usable = u;
        stamp-low = leb-false 512 (stamp_in clock) f.1.1.1.0;
        places-low =
            ltb-false 2048 (changes_in clock + x.count) f.1.1.1.1.0;
      }

-- ---- the rules judge alike

empty-is : {A : Type 0} (l : List A) → is_empty l ≡ eqb (length l) 0
empty-is [] = refl
empty-is (y ∷ l) = sym (eqb-suc-zero (length l))

module _ (t : Tables) (n : ℕ) (x : cells.Session) (o : OpenIn t n x) where
  in_table : leb max_sessions n ≡ false
  unfolding max_sessions
  in_table = lt-leb 16 n o.place-low

  pub commit-refusal : refusal_at t (commit n) ≡ first_of (commit_tests t.clock t.log t.changes x)
  unfolding refusal_at tests commit_tests max_rows max_records max_changes
  commit-refusal =
      rw (o.room, o.good, in_table, open-session t n x o)
      (rw (
        empty-is (entries x),
        length-entries x,
        stamp-means t,
        changes-means t (parts t o.good).records-fit,
        rows-means t,
        log-means t,
      ))
