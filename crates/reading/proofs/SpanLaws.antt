-- Span: what each of its ends comes to.
use Rattle.std.specs.Prelude.{Result, Ok, Err}
use mathlib.Core.Path.{◌≡◌, refl, sym, ap, ◌∙◌}
use mathlib.Core.Bool.{false, cond}
use mathlib.Core.Option.{none, some}
use mathlib.Core.List.{List, [], ◌∷◌}
use Prim.Native.Nat.{ℕ, ◌≤◌, ◌<◌}
use native.Mathlib.Omega.{arith}
use borrow.Author.Tests.{le-leb, lt-leb, lt-ltb, le-ltb}
use lib.Dec.{leb, ltb}
use lib.ListN.{length}
use Rattle.bits.specs.Rows.{count_of, rows_of}
use Rattle.bits.specs.Tab.{over}
use Rattle.bits.specs.Vec.{vec}
use Rattle.bits.proofs.RowLaws.{count-le}
use Rattle.bits.proofs.VecOps.{count_of-vec}
use Rattle.bits.proofs.WordRows.{count-rows}
use Rattle.rules.specs.State.{session, start_of}
use Rattle.rules.specs.Calls.{span}
use Rattle.rules.specs.Refusals.{Test, tests, no_value, backward, short_list}
use Rattle.tables.specs.declared.clock.Clock.{Clock}
use Rattle.tables.specs.declared.session.Session.{Session}
use Rattle.tables.specs.declared.refusal.Refusal.{Refusal}
use Rattle.tables.specs.declared.refusal.Refusal.TheVariants.{NoValue, Backward, ShortList}
use Rattle.tables.specs.Refusals.{number_of}
use Rattle.tables.specs.Cells.{Tables, tables, values_in}
use Rattle.tables.specs.Clock.{clock_in}
use Rattle.tables.specs.Meaning.{meaning}
use Rattle.tables.proofs.Facts.{room-facts}
use Rattle.tables.proofs.Means.{values-means}
use Rattle.history.specs.Span.{spanned_at, SpanReady}
use Rattle.history.proofs.Ready.{span-ready}
use Rattle.history.proofs.Meets.{span-meets}
use Rattle.lent.specs.declared.seats.Seat.{Seat}
use Rattle.outcomes.specs.declared.answers.Answer.{Answer}
use Rattle.outcomes.specs.declared.answers.Answer.TheVariants as answer
use Rattle.outcomes.specs.Outcome.{Outcome, refusal_at}
use Rattle.outcomes.specs.Span.{rows_of_span, listed_span, span_of}
use Rattle.outcomes.specs.Seats.{seat_of, untouched, Serves}
use Rattle.outcomes.specs.Enter.{valued_by}
use Rattle.outcomes.proofs.Entered.{bare, Goes, Shows, Valued, valued-passed, valued-goes, valued-shows}
use Rattle.outcomes.proofs.Serving.{idle, refused-outcome, accepted-outcome, valued-refused}

module _ (clock slots words heads log changes list : List ℕ) (x : Seat) (n a b : ℕ) where
  abbrev lent : List Session → Tables
  lent = tables clock slots words heads log changes

  abbrev start : ℕ
  start = x.session.start.0

  -- what a span leaves, that list being at its end
  abbrev Spans : List ℕ → Result Answer Refusal → Type 0
  Spans after r = Serves lent lent (after ∷ []) x n untouched r (λ t. span_of t list n a b)

  -- an accepted span
  abbrev done : Tables → Outcome
  done t = listed_span t list (start_of (session (meaning t) n)) a b

  -- the tests after the first value's: 6 once more, 20, 21
  abbrev rest : Tables → List Test
  rest t = no_value (meaning t) b ∷ backward a b ∷ short_list (meaning t) (session (meaning t) n) a b (length list) ∷ []

  pub span-refused : (why : Refusal) → some (number_of why) ≡ valued_by clock slots words heads log changes x n a → Spans list (Err why)
  unfolding span_of tests
  span-refused why q =
      valued-refused clock slots words heads log changes (list ∷ []) x n (span n a b (length list)) done why untouched (Err why)
      (idle _ _ refl) rest a (λ t. refl) q

  module _ (q : none ≡ valued_by clock slots words heads log changes x n a) where
    passed : Valued clock slots words heads log changes x.session n a
    passed = valued-passed clock slots words heads log changes x n a q

    pub span-clock : 6 ≤ length clock
    span-clock = (room-facts (bare clock slots words heads log changes) passed.room).clock-room

    module _ (ts : List Session) (e : x ≡ seat_of (lent ts) n) where
      went : Goes (lent ts) (span n a b (length list)) (rest (lent ts))
      unfolding tests
      went = valued-goes (lent ts) n x e (span n a b (length list)) (rest (lent ts)) a refl q

      shown : Shows (lent ts) n x.session
      unfolding tests
      shown = valued-shows (lent ts) n x e (span n a b (length list)) (rest (lent ts)) a refl q

      -- 6, 20 and 21, of the session that the seat has
      rest-decides : refusal_at (lent ts) (span n a b (length list))
          ≡ cond (leb (values_in clock) b) (some 6)
          (cond (ltb b a) (some 20) (cond (ltb (length list) (length (rows_of_span (lent ts) start a b))) (some 21) none))
      rest-decides = went.rest-decides ∙ rw (values-means (lent ts), shown.start-means)

    module _ (c : Clock) (k : c ≡ clock_in clock) where
      values-are : c.values.0 ≡ values_in clock
      unfolding clock_in
      values-are = ap (λ (y : Clock). y.values.0) k

      pub span-no-value : c.values.0 ≤ b → Spans list (Err NoValue)
      unfolding span_of
      span-no-value l ts e =
          refused-outcome (lent ts) (list ∷ []) (span n a b (length list)) (done (lent ts)) NoValue untouched (Err NoValue)
          (rest-decides ts e ∙ rw (le-leb (values_in clock) b (omega (arith, values-are)))) (idle _ _ refl)

      module _ (l : b < c.values.0) where
        low : b < values_in clock
        low = omega (arith, values-are)

        known : leb (values_in clock) b ≡ false
        known = lt-leb (values_in clock) b low

        pub span-backward : b < a → Spans list (Err Backward)
        unfolding span_of
        span-backward o ts e =
            refused-outcome (lent ts) (list ∷ []) (span n a b (length list)) (done (lent ts)) Backward untouched (Err Backward)
            (rest-decides ts e ∙ rw (known, lt-ltb b a o)) (idle _ _ refl)

        pub span-readies : SpanReady slots words heads log changes start b
        span-readies = span-ready (bare clock slots words heads log changes) passed.room passed.good start passed.start-old b low

        module _ (o : a ≤ b) (all : List ℕ) (w : all ≡ vec (spanned_at slots words heads log changes start a b) 32) (m : ℕ)
            (z : m ≡ count_of all) where
          module _ (ts : List Session) (e : x ≡ seat_of (lent ts) n) where
            rows_are : rows_of all ≡ rows_of_span (lent ts) start a b
            rows_are = ap rows_of w ∙ span-meets (lent ts) (went ts e).good start (shown ts e).facts.start-old a b low

            count-is : m ≡ length (rows_of_span (lent ts) start a b)
            count-is = z ∙ count-rows all ∙ ap length rows_are

            length-decides : refusal_at (lent ts) (span n a b (length list)) ≡ cond (ltb (length list) m) (some 21) none
            length-decides = rest-decides ts e ∙ rw (known, le-ltb b a o, ← count-is)

          pub span-short : length list < m → Spans list (Err ShortList)
          unfolding span_of
          span-short s ts e =
              refused-outcome (lent ts) (list ∷ []) (span n a b (length list)) (done (lent ts)) ShortList untouched (Err ShortList)
              (length-decides ts e ∙ rw (lt-ltb (length list) m s)) (idle _ _ refl)

          pub count_low : m < 4294967296
          count_low =
              omega (
                arith,
                z ∙ ap count_of w ∙ count_of-vec (spanned_at slots words heads log changes start a b) 32,
                count-le (spanned_at slots words heads log changes start a b) 2048,
              )

          -- the rows stand in the list
          pub span-lists : (after : List ℕ) (r : ℕ) → m ≤ length list → after ≡ over (rows_of all) list → r ≡ m
              → Spans after (Ok (answer.Count r))
          unfolding span_of listed_span
          span-lists after r s f j ts e =
              rw (f, rows_are ts e, j, count-is ts e, ← (shown ts e).start-means)
              (sym (accepted-outcome (lent ts) (list ∷ []) (span n a b (length list)) (done (lent ts))
              (length-decides ts e ∙ rw (le-ltb (length list) m s))))

-- what span stands on up to its list
pub ruleset spans = (span-refused, span-clock, span-no-value, span-backward, count_low)
