-- Query: what each of its ends comes to.
use Rattle.std.specs.Prelude.{Result, Ok, Err}
use mathlib.Core.Path.{◌≡◌, refl, sym, ap, ◌∙◌}
use mathlib.Core.Bool.{false, cond}
use mathlib.Core.Option.{none, some}
use mathlib.Core.List.{List, [], ◌∷◌}
use Prim.Native.Nat.{ℕ, ◌≤◌, ◌<◌}
use borrow.Author.Tests.{eq-eqb, ne_eqb, lt-ltb, le-ltb}
use lib.Dec.{eqb, ltb}
use lib.ListN.{length}
use Rattle.bits.specs.Tab.{over}
use Rattle.bits.specs.Vec.{vec}
use Rattle.rules.specs.Limits.{vector_words}
use Rattle.rules.specs.State.{session, start_of}
use Rattle.rules.specs.Calls.{query}
use Rattle.rules.specs.Refusals.{tests, short_scratch}
use Rattle.tables.specs.declared.session.Session.{Session}
use Rattle.tables.specs.declared.refusal.Refusal.{Refusal}
use Rattle.tables.specs.declared.refusal.Refusal.TheVariants.{ShortScratch}
use Rattle.tables.specs.Refusals.{number_of}
use Rattle.tables.specs.Cells.{Tables, tables}
use Rattle.tables.specs.Meaning.{meaning}
use Rattle.history.specs.declared.query.Found.{Found}
use Rattle.history.specs.Version.{base_seen}
use Rattle.history.specs.Query.{front_filled, found_at, scratch_at, Ready}
use Rattle.history.proofs.Ready.{ready}
use Rattle.history.proofs.Meets.{count_meets, scratch-meets}
use Rattle.lent.specs.declared.seats.Seat.{Seat}
use Rattle.outcomes.specs.declared.answers.Place.TheVariants.{Slot, Scratch}
use Rattle.outcomes.specs.declared.answers.Answer.{Answer}
use Rattle.outcomes.specs.declared.answers.Answer.TheVariants as answer
use Rattle.outcomes.specs.Outcome.{Outcome}
use Rattle.outcomes.specs.Query.{rows_seen, flips_seen, query_of}
use Rattle.outcomes.specs.Query as query
use Rattle.outcomes.specs.Seats.{seat_of, untouched, Serves}
use Rattle.outcomes.specs.Enter.{valued_by}
use Rattle.outcomes.proofs.Entered.{bare, Goes, Shows, Valued, valued-passed, valued-goes, valued-shows}
use Rattle.outcomes.proofs.Serving.{idle, refused-outcome, accepted-outcome, valued-refused}

module _ (clock slots words heads log changes scratch : List ℕ) (x : Seat) (n v threshold : ℕ) where
  abbrev lent : List Session → Tables
  lent = tables clock slots words heads log changes

  -- what a query leaves, that scratch being at its end
  abbrev Answers : List ℕ → Result Answer Refusal → Type 0
  Answers after a = Serves lent lent (after ∷ []) x n untouched a (λ t. query_of t scratch n v threshold)

  -- an accepted query
  abbrev done : Tables → Outcome
  done t = query.asked t scratch (start_of (session (meaning t) n)) v threshold

  pub query-refused : (why : Refusal) → some (number_of why) ≡ valued_by clock slots words heads log changes x n v
      → Answers scratch (Err why)
  unfolding query_of tests
  query-refused why q =
      valued-refused clock slots words heads log changes (scratch ∷ []) x n (query n v threshold (length scratch)) done why untouched
      (Err why) (idle _ _ refl) (λ t. short_scratch (length scratch) ∷ []) v (λ t. refl) q

  module _ (q : none ≡ valued_by clock slots words heads log changes x n v) where
    passed : Valued clock slots words heads log changes x.session n v
    passed = valued-passed clock slots words heads log changes x n v q

    pub query-ready : 32 ≤ length scratch → Ready slots words heads log changes scratch x.session.start.0 v
    query-ready l =
        ready (bare clock slots words heads log changes) passed.room passed.good x.session.start.0 passed.start-old v
        passed.value_low scratch l

    module _ (ts : List Session) (e : x ≡ seat_of (lent ts) n) where
      went : Goes (lent ts) (query n v threshold (length scratch)) (short_scratch (length scratch) ∷ [])
      unfolding tests
      went = valued-goes (lent ts) n x e (query n v threshold (length scratch)) (short_scratch (length scratch) ∷ []) v refl q

      shown : Shows (lent ts) n x.session
      unfolding tests
      shown = valued-shows (lent ts) n x e (query n v threshold (length scratch)) (short_scratch (length scratch) ∷ []) v refl q

    pub query-short : length scratch < 32 → Answers scratch (Err ShortScratch)
    unfolding query_of vector_words
    query-short l ts e =
        let t = lent ts in
        refused-outcome t (scratch ∷ []) (query n v threshold (length scratch)) (done t) ShortScratch untouched (Err ShortScratch)
        ((went ts e).rest-decides ∙ rw (lt-ltb (length scratch) 32 l)) (idle _ _ refl)

    module _ (l : 32 ≤ length scratch) (f : Found) (p : f ≡ found_at slots heads log changes x.session.start.0 v) (after : List ℕ)
        (w : after ≡ scratch_at slots words heads log changes scratch x.session.start.0 v) where
      abbrev start : ℕ
      start = x.session.start.0

      module _ (ts : List Session) (e : x ≡ seat_of (lent ts) n) where
        accepted : query_of (lent ts) scratch n v threshold ≡ query.asked (lent ts) scratch start v threshold
        unfolding query_of vector_words
        accepted =
            let t = lent ts in
            accepted-outcome t (scratch ∷ []) (query n v threshold (length scratch)) (done t)
            ((went ts e).rest-decides ∙ rw (le-ltb (length scratch) 32 l)) ∙ rw (shown ts e).start-means

        flips-are : f.flips ≡ flips_seen (lent ts) start v
        flips-are =
            ap (λ (g : Found). g.flips) p ∙ count_meets (lent ts) (went ts e).good start (shown ts e).facts.start-old v
            passed.value_low

        scratch-is : after ≡ cond (eqb (flips_seen (lent ts) start v) 0) scratch (over (vec (rows_seen (lent ts) start v) 32) scratch)
        unfolding front_filled
        scratch-is = w ∙ scratch-meets (lent ts) (went ts e).good start (shown ts e).facts.start-old v passed.value_low scratch

      -- no row is flipped: the slot's own words
      pub query-own : f.flips ≡ 0 → Answers after (Ok (answer.Listed 0 false (Slot f.slot)))
      unfolding found_at base_seen query.asked
      query-own z ts e =
          let none-flipped = eq-eqb (flips_seen (lent ts) start v) 0 (sym (flips-are ts e) ∙ z) in
          rw (accepted ts e, scratch-is ts e, none-flipped, p)

      -- some are: the scratch's
      pub query-copied : (f.flips ≡ 0 → ⊥) → Answers after (Ok (answer.Listed f.flips (ltb threshold f.flips) Scratch))
      unfolding query.asked
      query-copied z ts e =
          let some-flipped = ne_eqb (flips_seen (lent ts) start v) 0 (λ y. z (flips-are ts e ∙ y)) in
          rw (accepted ts e, scratch-is ts e, flips-are ts e, some-flipped)

-- what query stands on where it is refused
pub ruleset queries = (query-refused, query-short)
