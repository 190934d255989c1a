-- Begin and abort: what each of their ends comes to.
use Rattle.std.specs.Prelude.{Result, Ok, Err}
use mathlib.Core.Path.{◌≡◌, refl, sym, ap, ◌∙◌}
use mathlib.Core.Option.{none, some}
use mathlib.Core.List.{List, [], ◌∷◌}
use Prim.Native.Nat.{ℕ, ◌≤◌}
use borrow.Author.Tests.{eq-eqb, ne_eqb}
use lib.ListN.{length}
use Rattle.rules.specs.Calls.{begin, abort}
use Rattle.rules.specs.Refusals.{tests}
use Rattle.tables.specs.declared.clock.Clock.{Clock}
use Rattle.tables.specs.declared.session.Session.{Session}
use Rattle.tables.specs.declared.refusal.Refusal.{Refusal}
use Rattle.tables.specs.Refusals.{number_of}
use Rattle.tables.specs.Cells.{Tables, tables}
use Rattle.tables.specs.Clock.{clock_in}
use Rattle.tables.specs.Sessions.{freed}
use Rattle.tables.proofs.Facts.{room-facts}
use Rattle.lent.specs.declared.seats.Seat.{Seat}
use Rattle.outcomes.specs.declared.answers.Begun.{Begun}
use Rattle.outcomes.specs.declared.answers.Begun.TheVariants.{Opened, Stands}
use Rattle.outcomes.specs.declared.answers.Answer.{Answer}
use Rattle.outcomes.specs.declared.answers.Answer.TheVariants.{Count}
use Rattle.outcomes.specs.Said.{numbers}
use Rattle.outcomes.specs.Outcome.{Outcome, outcome}
use Rattle.outcomes.specs.Calls.{own, reseated, beginning, begin_of, abort_of}
use Rattle.outcomes.specs.Seats.{seat_of, begun_answer, opening, freeing, Serves}
use Rattle.outcomes.specs.Enter.{placed_by, opened_by}
use Rattle.outcomes.proofs.Entered.{bare, placed-passed, placed-goes, opened-goes, opened-passed, own-seat}
use Rattle.outcomes.proofs.Serving.{idle-opening, idle-freeing, opened-left, freed-left, accepted-outcome, placed-refused}
use Rattle.outcomes.proofs.Serving.{opened-refused}

module _ (clock slots words heads log changes : List ℕ) (x : Seat) (n : ℕ) where
  abbrev lent : List Session → Tables
  lent = tables clock slots words heads log changes

  -- ---- begin

  abbrev Begins : Result Begun Refusal → Type 0
  Begins d = Serves lent lent [] x n (opening d n) (begun_answer d) (λ t. begin_of t n)

  pub begin-refused : (why : Refusal) → some (number_of why) ≡ placed_by clock slots words heads log changes x.places x.fit n
      → Begins (Err why)
  unfolding begin_of tests
  begin-refused why q =
      placed-refused clock slots words heads log changes [] x n (begin n) (λ t. beginning t n (own t n)) why (opening (Err why) n)
      (Err why) (idle-opening (Err why) n why refl) (λ t. []) (λ t. refl) q

  module _ (q : none ≡ placed_by clock slots words heads log changes x.places x.fit n) where
    pub begin-clock : 6 ≤ length clock
    begin-clock =
        (room-facts (bare clock slots words heads log changes)
        (placed-passed clock slots words heads log changes x n q).room).clock-room

    -- an accepted begin, of the session that the seat has
    accepted : (ts : List Session) → x ≡ seat_of (lent ts) n → begin_of (lent ts) n ≡ beginning (lent ts) n x.session
    unfolding begin_of tests
    accepted ts e =
        let t = lent ts in
        accepted-outcome t [] (begin n) (beginning t n (own t n)) (placed-goes t n x e (begin n) [] refl q).rest-decides
        ∙ ap (beginning t n) (sym (own-seat t n x e))

    pub begin-again : x.session.live ≡ 1 → Begins (Ok (Stands x.session.start x.session.rows))
    unfolding beginning
    begin-again l ts e = sym (accepted ts e ∙ rw (eq-eqb x.session.live 1 l))

    pub begin-new : (c : Clock) → (x.session.live ≡ 1 → ⊥) → c ≡ clock_in clock → Begins (Ok (Opened c.stamp c.rows))
    unfolding beginning clock_in
    begin-new c l p ts e =
        let t = lent ts in
        opened-left t [] n (Ok (Opened c.stamp c.rows)) c.stamp c.rows (placed-passed clock slots words heads log changes x n q).place-low
        refl
        ∙ sym (accepted ts e ∙ rw (ne_eqb x.session.live 1 l, p))

  -- ---- abort

  abbrev Aborts : Result Answer Refusal → Type 0
  Aborts d = Serves lent lent [] x n (freeing d n) d (λ t. abort_of t n)

  abbrev dropped : Tables → Outcome
  dropped t = outcome (reseated t n freed) [] (numbers ((own t n).count ∷ []))

  pub abort_refused : (why : Refusal) → some (number_of why) ≡ opened_by clock slots words heads log changes x n → Aborts (Err why)
  unfolding abort_of tests
  abort_refused why q =
      opened-refused clock slots words heads log changes [] x n (abort n) dropped why (freeing (Err why) n) (Err why)
      (idle-freeing (Err why) n why refl) (λ t. []) (λ t. refl) q

  pub abort-frees : none ≡ opened_by clock slots words heads log changes x n → Aborts (Ok (Count x.session.count))
  unfolding abort_of tests
  abort-frees q ts e =
      let t = lent ts in
      freed-left t [] n (Ok (Count x.session.count)) (Count x.session.count)
      (opened-passed clock slots words heads log changes x n q).place-low refl
      ∙ rw (own-seat t n x e) (sym (accepted-outcome t [] (abort n) (dropped t)
      (opened-goes t n x e (abort n) [] refl q).rest-decides))

-- what begin stands on
pub ruleset begins = (begin-refused, begin-clock, begin-again, begin-new)

-- and abort
pub ruleset aborts = (abort_refused, abort-frees)
