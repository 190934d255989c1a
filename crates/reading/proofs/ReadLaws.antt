-- Read: what each of its ends comes to.
use Rattle.std.specs.Prelude as kit
use Rattle.std.specs.Prelude.{Result, Ok, Err}
use mathlib.Core.Path.{◌≡◌, refl, sym, ◌∙◌}
use mathlib.Core.Bool.{cond}
use mathlib.Core.Option.{none, some}
use mathlib.Core.List.{List, [], ◌∷◌}
use Prim.Native.Nat.{ℕ, ◌≤◌, ◌<◌}
use borrow.Author.Tests.{le-leb, lt-leb}
use lib.Dec.{leb}
use lib.ListN.{length}
use Rattle.rules.specs.State.{session}
use Rattle.rules.specs.Calls.{read}
use Rattle.rules.specs.Refusals.{tests, no_row, read_in}
use Rattle.tables.specs.declared.clock.Clock.{Clock}
use Rattle.tables.specs.declared.session.Session.{Session}
use Rattle.tables.specs.declared.counts.Value.{Value}
use Rattle.tables.specs.declared.refusal.Refusal.{Refusal}
use Rattle.tables.specs.declared.refusal.Refusal.TheVariants.{NoRow}
use Rattle.tables.specs.Refusals.{number_of}
use Rattle.tables.specs.Cells.{Tables, tables}
use Rattle.tables.specs.Clock.{clock_in}
use Rattle.tables.specs.Meaning.{meaning}
use Rattle.tables.proofs.Facts.{room-facts}
use Rattle.history.specs.Read.{standing_of, read_cells, ReadReady}
use Rattle.history.proofs.Ready.{read-ready}
use Rattle.history.proofs.Meets.{read_meets}
use Rattle.lent.specs.declared.seats.Seat.{Seat}
use Rattle.outcomes.specs.declared.answers.Answer.{Answer}
use Rattle.outcomes.specs.declared.answers.Answer.TheVariants as answer
use Rattle.outcomes.specs.Said.{value}
use Rattle.outcomes.specs.Outcome.{Outcome, outcome, refusal_at}
use Rattle.outcomes.specs.Calls.{read_of}
use Rattle.outcomes.specs.Seats.{seat_of, untouched, Serves}
use Rattle.outcomes.specs.Enter.{opened_by}
use Rattle.outcomes.proofs.Entered.{bare, Goes, Shows, Opened, opened-passed, opened-goes, opened-shows}
use Rattle.outcomes.proofs.Serving.{idle, refused-outcome, accepted-outcome, opened-refused}

module _ (clock slots words heads log changes : List ℕ) (x : Seat) (n row : ℕ) where
  abbrev lent : List Session → Tables
  lent = tables clock slots words heads log changes

  abbrev seen : Tables → Outcome
  seen t = outcome t [] (value (read_in (meaning t) (session (meaning t) n) row))

  abbrev Reads : Result Answer Refusal → Type 0
  Reads a = Serves lent lent [] x n untouched a (λ t. read_of t n row)

  pub read-refused : (why : Refusal) → some (number_of why) ≡ opened_by clock slots words heads log changes x n → Reads (Err why)
  unfolding read_of tests
  read-refused why q =
      opened-refused clock slots words heads log changes [] x n (read n row) seen why untouched (Err why) (idle _ _ refl)
      (λ t. no_row (session (meaning t) n) row ∷ []) (λ t. refl) q

  module _ (q : none ≡ opened_by clock slots words heads log changes x n) where
    passed : Opened clock slots words heads log changes x.session n
    passed = opened-passed clock slots words heads log changes x n q

    pub read-clock : 6 ≤ length clock
    read-clock = (room-facts (bare clock slots words heads log changes) passed.room).clock-room

    pub read-readies : (c : Clock) → c ≡ clock_in clock → ReadReady slots words heads log changes c.values.0 x.session.start.0
    unfolding clock_in
    read-readies c k =
        rw k (read-ready (bare clock slots words heads log changes) passed.room passed.good x.session.start.0
        passed.start-old)

    module _ (ts : List Session) (e : x ≡ seat_of (lent ts) n) where
      went : Goes (lent ts) (read n row) (no_row (session (meaning (lent ts)) n) row ∷ [])
      unfolding tests
      went = opened-goes (lent ts) n x e (read n row) (no_row (session (meaning (lent ts)) n) row ∷ []) refl q

      shown : Shows (lent ts) n x.session
      unfolding tests
      shown = opened-shows (lent ts) n x e (read n row) (no_row (session (meaning (lent ts)) n) row ∷ []) refl q

      -- 7, of the session that the seat has
      row-decides : refusal_at (lent ts) (read n row) ≡ cond (leb x.session.rows.0 row) (some 7) none
      row-decides = went.rest-decides ∙ rw shown.rows-mean

    pub read-no-row : x.session.rows.0 ≤ row → Reads (Err NoRow)
    unfolding read_of
    read-no-row l ts e =
        refused-outcome (lent ts) [] (read n row) (seen (lent ts)) NoRow untouched (Err NoRow)
        (row-decides ts e ∙ rw (le-leb x.session.rows.0 row l)) (idle _ _ refl)

    pub read-reads : (c : Clock) (r : kit.Option Value) → row < x.session.rows.0 → c ≡ clock_in clock
        → standing_of r ≡ read_cells slots words heads log changes c.values.0 x.session.start.0 row → Reads (Ok (answer.Read r))
    unfolding read_of clock_in
    read-reads c r l p z ts e =
        let t = lent ts in
        let s = shown ts e in
        rw (z, p, read_meets t (went ts e).good x.session.start.0 s.facts.start-old row, ← s.start-means)
        (sym (accepted-outcome t [] (read n row) (seen t) (row-decides ts e ∙ rw (lt-leb x.session.rows.0 row l))))

-- what read stands on
pub ruleset reads = (read-refused, read-clock, read-no-row, read-reads)
