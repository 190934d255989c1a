-- A tidy as a whole: all tables after it, and what the call comes to.
use Rattle.std.specs.Prelude.{Result, Ok, Err}
use mathlib.Core.Path.{◌≡◌, refl, sym, ap, ap₂, ◌∙◌}
use mathlib.Core.Option.{Option, none, some}
use mathlib.Core.List.{List, [], ◌∷◌}
use Prim.Native.Nat.{ℕ, ◌+◌, ◌≤◌, ◌<◌}
use native.Mathlib.Omega.{arith}
use borrow.Author.Tests.{leb-false, ltb-false}
use lib.ListN.{length}
use Rattle.bits.specs.Rows.{count_of, rows_of}
use Rattle.bits.specs.Vec.{vec}
use Rattle.rules.specs.State.{session}
use Rattle.rules.specs.Tidy.{moved}
use Rattle.rules.specs.Calls.{tidy}
use Rattle.rules.specs.Refusals.{first_of, tests}
use Rattle.rules.proofs.Tests.{all-fail}
use Rattle.tables.specs.declared.session.Session.{Session}
use Rattle.tables.specs.declared.refusal.Refusal.{Refusal}
use Rattle.tables.specs.Refusals.{number_of}
use Rattle.tables.specs.Cells.{Tables, tables, stamp_in, slots_in, changes_in, end_at}
use Rattle.tables.specs.Clock.{clock_in, later}
use Rattle.tables.specs.Meaning.{meaning}
use Rattle.tables.proofs.Facts.{room-facts, parts, clock-limits, last_end, end-high}
use Rattle.history.specs.Flips.{flipped_in}
use Rattle.history.proofs.Ready.{based, rows-low}
use Rattle.outcomes.specs.declared.answers.Answer.{Answer}
use Rattle.lent.specs.declared.seats.Seat.{Seat}
use Rattle.outcomes.specs.Said.{numbers_of, numbers}
use Rattle.outcomes.specs.Outcome.{Outcome, outcome, unless}
use Rattle.outcomes.specs.Stores.{stores}
use Rattle.outcomes.specs.Calls.{own, tidy_stores, tidy_of}
use Rattle.outcomes.specs.Seats.{untouched, Serves}
use Rattle.outcomes.specs.Enter.{valued_by}
use Rattle.tidying.specs.declared.tidy.Plan.{Plan}
use Rattle.tidying.specs.Tidy.{tidy_tests, RowsPut, Puttable, Fillable, VersionPut, Tidyable, TidyReady, plan_of}
use Rattle.tidying.specs.Tidy.{moved_in, tidy_clock, tidy_log, tidied_cells, Tidied, tidy_cells, Tidies}
use Rattle.outcomes.proofs.Entered.{bare, Valued, valued-passed, valued-goes, valued-shows}
use Rattle.outcomes.proofs.Serving.{idle, valued-refused}
use Rattle.tidying.proofs.TidyMeets.{rest_tests, tests-meet, cells_meet}

-- ---- all tables after it

module _ (clock slots words heads log changes moved : List ℕ) (s v : ℕ) (f : TidyReady clock slots words heads log changes s v moved) where
  module _ (p : Plan) (e : p ≡ plan_of clock log s moved) where
    pub version-fillable : Fillable slots words heads log changes p.slot s v
    unfolding plan_of
    version-fillable = rw e (search arith)

    pub moved-puttable : Puttable changes p.used p.to v (count_of moved)
    unfolding plan_of
    moved-puttable = rw e (search arith)

    pub tidy-writes : (p.next ≡ later (clock_in clock) (clock_in clock).rows) × (6 ≤ length clock) × (2048 ≤ length log)
        × (stamp_in clock < 512)
        × (changes_in clock + p.count ≤ 2048) × (slots_in clock < 96)
    unfolding plan_of
    tidy-writes = rw e (search arith)

    pub tidy-done : (z : ℕ) (clock' slots' words' heads' log' changes' : List ℕ) (r : Answer)
        → VersionPut slots words heads log changes p.slot p.next.stamp.0 s v slots' words' heads'
        → RowsPut (rows_of moved) p.used p.to v changes changes' z
        → (clock' ≡ tidy_clock clock p.count) × (log' ≡ tidy_log clock log p.count)
        × (numbers_of r ≡ numbers ((stamp_in clock + 1) ∷ p.count ∷ []))
        → Tidied (tables clock slots words heads log changes) (tables clock' slots' words' heads' log' changes') s v moved r
    unfolding tidied_cells plan_of later clock_in
    tidy-done z clock' slots' words' heads' log' changes' r x y w = λ ts.
        rw (w.0, w.1, w.2, x.slots-are, x.words_are, x.heads-are, y.stored, e)

-- ---- its own tests

-- what passing them says
pub passing : (clock slots heads log changes : List ℕ) (s v : ℕ) (moved : List ℕ)
    → first_of (tidy_tests clock slots heads log changes s v moved) ≡ none
    → (stamp_in clock < 512) × (changes_in clock + count_of moved ≤ 2048) × (slots_in clock < 96)
unfolding tidy_tests
passing clock slots heads log changes s v moved e =
    let p = all-fail (tidy_tests clock slots heads log changes s v moved) e in
    (leb-false _ _ p.1.1.0, ltb-false _ _ p.1.1.1.0, leb-false _ _ p.1.1.1.1.0)

module _ (clock slots words heads log changes : List ℕ) (s v to : ℕ) (moved : List ℕ) (a : to ≡ end_at log s)
    (m : moved ≡ vec (flipped_in changes 0 to v) 32) where
  abbrev lent : List Session → Tables
  lent = tables clock slots words heads log changes

  moved-is : moved ≡ moved_in log changes s v
  unfolding moved_in
  moved-is = m ∙ ap (λ (k : ℕ). vec (flipped_in changes 0 k v) 32) a

  why-is : (o : Option ℕ) → o ≡ first_of (tidy_tests clock slots heads log changes s v moved)
      → o ≡ first_of (tidy_tests clock slots heads log changes s v (moved_in log changes s v))
  why-is o q = q ∙ ap (λ (w : List ℕ). first_of (tidy_tests clock slots heads log changes s v w)) moved-is

  pub tidy-refuses : (why : Refusal) → some (number_of why) ≡ first_of (tidy_tests clock slots heads log changes s v moved)
      → Tidies lent lent s v (Err why)
  unfolding tidy_cells unless
  tidy-refuses why q = λ ts.
      let o = tidied_cells (lent ts) s v (moved_in log changes s v) in
      ap (λ (w : Option ℕ). unless w (lent ts) [] o) (why-is (some (number_of why)) q)

  module _ (q : none ≡ first_of (tidy_tests clock slots heads log changes s v moved)) where
    pub tidy-ready : Tidyable clock slots words heads log changes s v → TidyReady clock slots words heads log changes s v moved
    tidy-ready f = let p = passing clock slots heads log changes s v moved (sym q) in search

    pub tidy-answers : (after : List Session → Tables) (r : Answer) → Tidied lent after s v moved r → Tidies lent after s v (Ok r)
    unfolding tidy_cells unless
    tidy-answers after r f = λ ts.
        let o = tidied_cells (lent ts) s v (moved_in log changes s v) in
        f ts ∙ ap (tidied_cells (lent ts) s v) moved-is ∙ ap (λ (w : Option ℕ). unless w (lent ts) [] o) (why-is none q)

-- ---- the call

-- what is refused does not matter
unless-same : (o : Option ℕ) (t : Tables) (a b : Outcome) → (o ≡ none → a ≡ b) → unless o t [] a ≡ unless o t [] b
unfolding unless
unless-same none t a b h = h refl
unless-same (some n) t a b h = refl

module _ (clock slots words heads log changes : List ℕ) (x : Seat) (n v : ℕ) where
  abbrev given : List Session → Tables
  given = tables clock slots words heads log changes

  pub tidy-refused : (why : Refusal) → some (number_of why) ≡ valued_by clock slots words heads log changes x n v
      → Serves given given [] x n untouched (Err why) (λ t. tidy_of t n v)
  unfolding tidy_of tests
  tidy-refused why q =
      valued-refused clock slots words heads log changes [] x n (tidy n v)
      (λ t. let s = (own t n).start.0 in
      outcome (stores t (tidy_stores t s v)) [] (numbers ((stamp_in t.clock + 1) ∷ length (moved (meaning t).log s v) ∷ [])))
      why untouched (Err why) (idle _ _ refl) (λ t. rest_tests t v (session (meaning t) n)) v (λ t. refl) q

  module _ (q : none ≡ valued_by clock slots words heads log changes x n v) where
    valued : Valued clock slots words heads log changes x.session n v
    valued = valued-passed clock slots words heads log changes x n v q

    pub tidyable : Tidyable clock slots words heads log changes x.session.start.0 v
    tidyable =
        let t = bare clock slots words heads log changes in
        let y = valued in
        let s = x.session.start.0 in
        let p = parts t y.good in
        let k = clock-limits clock p.clock-fits in
        let r = room-facts t y.room in
        record {
          room = search;
          based = based t y.room y.good s y.start-old v y.value_low;
          rows = rows-low t y.room y.good s y.start-old 0;
          start-old = y.start-old;
          few-records = k.few-records;
          few-changes = k.few-changes;
          last_end = last_end clock log p.records-fit;
          end-old = end-high clock log p.records-fit s y.start-old;
        }

    pub tidy-served : (after : List Session → Tables) (a : Result Answer Refusal) → Tidies given after x.session.start.0 v a
        → Serves given after [] x n untouched a (λ t. tidy_of t n v)
    unfolding tidy_of tidy_cells tests
    tidy-served after a f = λ ts e.
        let t = given ts in
        let s = x.session.start.0 in
        let g = valued-goes t n x e (tidy n v) (rest_tests t v (session (meaning t) n)) v refl q in
        let w = valued-shows t n x e (tidy n v) (rest_tests t v (session (meaning t) n)) v refl q in
        let o : ℕ → Outcome = λ k. outcome (stores t (tidy_stores t k v)) []
        (numbers ((stamp_in t.clock + 1) ∷ length (moved (meaning t).log k v) ∷ [])) in
        let low : s ≤ stamp_in clock = w.facts.start-old in
        let ts₀ = first_of (tidy_tests clock slots heads log changes s v (moved_in log changes s v)) in
        f ts
        ∙ unless-same ts₀ t (tidied_cells t s v (moved_in log changes s v)) (o s)
        (λ z. cells_meet t g.good s low v valued.value_low (room-facts t g.room).words-room
        (passing clock slots heads log changes s v (moved_in log changes s v) z).2)
        ∙ ap₂ (λ (r : Option ℕ) (k : ℕ). unless r t [] (o k))
        (tests-meet t g.good s low v valued.value_low (session (meaning t) n) w.start-means ∙ sym g.rest-decides)
        (ap (λ (y : Session). y.start.0) (sym w.own-there))
