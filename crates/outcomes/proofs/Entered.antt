-- What a passed test of `enter` says: of the number tables alone, which is what the code goes on with, and of all tables that show
-- the seat, where the rest of the call's tests decides.
use mathlib.Core.Path.{◌≡◌, refl, sym, ap, subst, ◌∙◌}
use mathlib.Core.Bool.{Bool, true, false, not, cond, ◌&&◌, and_comm}
use mathlib.Core.Option.{none, some, some-ne-none}
use mathlib.Core.List.{List, [], ◌∷◌}
use mathlib.Core.Logic.{inl, ⊎_elim}
use Prim.Native.Nat.{ℕ, ◌≤◌, ◌<◌}
use native.Mathlib.Omega.{arith}
use borrow.Author.Tests.{leb-true, leb-false, le-leb, eqb-true, not-false, lt-ltb, le-ltb}
use lib.Dec.{leb, eqb}
use lib.ListN.{length, replicate, length-replicate, get_or-replicate}
use Rattle.bits.proofs.Cases.{lt-cases}
use Rattle.rules.specs.State.{session, is_free, start_of, rows_of, list_of}
use Rattle.rules.specs.Limits.{max_sessions}
use Rattle.rules.specs.Calls.{Call}
use Rattle.rules.specs.Refusals.{Test, first_of, no_session, not_open, no_value, tests}
use Rattle.rules.proofs.Tests.{all-fail}
use Rattle.tables.specs.declared.session.Session.{Session}
use Rattle.tables.specs.Cells.{Tables, tables, values_in, first_in, stamp_in}
use Rattle.tables.specs.Clock.{lent_clock}
use Rattle.tables.specs.Sessions.{freed, session_at}
use Rattle.tables.specs.Meaning.{meaning, entries, session_of}
use Rattle.tables.specs.Room.{roomy}
use Rattle.tables.specs.Damage.{sound, session_fits}
use Rattle.tables.proofs.Tests.{both, and_both}
use Rattle.tables.proofs.Facts.{room-facts, room-made, room-is, room-lengths, parts, whole}
use Rattle.tables.proofs.Sessions.{OpenFacts, freed-zero, session-made, sessions-made, open_at, open-rows-few}
use Rattle.tables.proofs.Means.{values-means, session-means, session-past, is_free-means, free-means, start_of-means, rows_of-means}
use Rattle.tables.proofs.Means.{list_of-means}
use Rattle.tables.specs.Room.{room_for}
use Rattle.damage.specs.Numbers.{numbers_fit}
use Rattle.session_damage.specs.Judged.{sessions_judged}
use Rattle.damage.proofs.NumberLaws.{number-parts}
use Rattle.damage.proofs.SoundLaws.{judged-sound-lent}
use Rattle.lent.specs.Places.{seat_at}
use Rattle.lent.specs.declared.seats.Seat.{Seat}
use Rattle.lent.specs.Seats as lent
use Rattle.outcomes.specs.Outcome.{refusal_at}
use Rattle.outcomes.specs.Seats.{seat_of}
use Rattle.outcomes.specs.Enter.{entered_by, placed_by, shut, in_reach, strange, unknown, opened_by, valued_by}
use Rattle.outcomes.proofs.EnterLaws.{first-begins, first-goes-on, first-skips, Passes, passes}

-- ---- the number tables alone

-- the tables with sixteen free sessions: what holds of all undamaged tables holds of the number tables by these
abbrev pub bare : List ℕ → List ℕ → List ℕ → List ℕ → List ℕ → List ℕ → Tables
bare clock slots words heads log changes = tables clock slots words heads log changes (replicate 16 freed)

module _ (clock slots words heads log changes : List ℕ) where
  bare-room : (places : ℕ) → room_for clock slots words heads log changes places ≡ true
      → roomy (bare clock slots words heads log changes) ≡ true
  bare-room places e =
      let r = room-lengths clock slots words heads log changes places e in
      room-made (bare clock slots words heads log changes) (omega (arith, r, length-replicate 16 freed))

  bare-sound : numbers_fit clock slots words heads log changes ≡ true → sound (bare clock slots words heads log changes) ≡ true
  bare-sound e =
      let p = number-parts clock slots words heads log changes e in
      let f : (i : ℕ) → i < 16 → session_fits (values_in clock) (first_in clock) (stamp_in clock) log
      (session_at (replicate 16 freed) i) ≡ true =
      λ i l. session-made _ _ _ _ _ (inl (rw (get_or-replicate 16 i freed freed l) freed-zero)) in
      let z = sessions-made clock log (replicate 16 freed) f in
      whole (bare clock slots words heads log changes) (search)

  -- what a call that goes on knows: of the number tables and its session's number
  pub record Placed (n : ℕ) : Type 0 where
    pub room : roomy (bare clock slots words heads log changes) ≡ true
    pub good : sound (bare clock slots words heads log changes) ≡ true
    pub place-low : n < 16

  -- of an open session
  pub record Opened (x : Session) (n : ℕ) : Type 0 where
    pub room : roomy (bare clock slots words heads log changes) ≡ true
    pub good : sound (bare clock slots words heads log changes) ≡ true
    pub place-low : n < 16
    pub live-one : x.live ≡ 1
    pub start-old : x.start.0 ≤ stamp_in clock
    pub rows_few : x.rows.0 ≤ 2048
    pub count_low : x.count ≤ 32

  -- of a value
  pub record Valued (x : Session) (n v : ℕ) : Type 0 where
    pub room : roomy (bare clock slots words heads log changes) ≡ true
    pub good : sound (bare clock slots words heads log changes) ≡ true
    pub place-low : n < 16
    pub live-one : x.live ≡ 1
    pub start-old : x.start.0 ≤ stamp_in clock
    pub rows_few : x.rows.0 ≤ 2048
    pub count_low : x.count ≤ 32
    pub value_low : v < values_in clock

  module _ (x : Seat) (n : ℕ) where
    abbrev came : List Test → Type 0
    came ts = Passes clock slots words heads log changes x.places x.fit ts

    below-table : leb max_sessions n ≡ false → n < 16
    unfolding max_sessions
    below-table e = leb-false 16 n e

    three : leb max_sessions n ≡ false → not (eqb x.session.live 1) ≡ false
        → not (in_reach (stamp_in clock) x.session.start.0 x.session.rows.0 x.session.count) ≡ false
        → room_for clock slots words heads log changes x.places ≡ true → numbers_fit clock slots words heads log changes ≡ true
        → Opened x.session n
    unfolding in_reach
    three a b c r g =
        let p = both _ _ (not-false _ c) in
        let q = both _ _ p.0 in
        record {
          room = bare-room x.places r;
          good = bare-sound g;
          place-low = below-table a;
          live-one = eqb-true _ _ (not-false _ b);
          start-old = leb-true _ _ q.0;
          rows_few = leb-true _ _ q.1;
          count_low = leb-true _ _ p.1;
        }

    pub placed-passed : none ≡ placed_by clock slots words heads log changes x.places x.fit n → Placed n
    placed-passed e =
        let ts : List Test = no_session n ∷ [] in
        let p = passes clock slots words heads log changes x.places x.fit ts (sym e) in
        record {
          room = bare-room x.places p.room-found;
          good = bare-sound p.numbers-found;
          place-low = below-table (all-fail ts p.tests-found).0;
        }

    pub opened-passed : none ≡ opened_by clock slots words heads log changes x n → Opened x.session n
    opened-passed e =
        let ts : List Test = no_session n ∷ shut x ∷ strange clock x ∷ [] in
        let p = passes clock slots words heads log changes x.places x.fit ts (sym e) in
        let f = all-fail ts p.tests-found in
        three f.0 f.1.0 f.1.1.0 p.room-found p.numbers-found

    pub valued-passed : (v : ℕ) → none ≡ valued_by clock slots words heads log changes x n v → Valued x.session n v
    valued-passed v e =
        let ts : List Test = no_session n ∷ shut x ∷ strange clock x ∷ unknown clock v ∷ [] in
        let p = passes clock slots words heads log changes x.places x.fit ts (sym e) in
        let f = all-fail ts p.tests-found in
        let o = three f.0 f.1.0 f.1.1.0 p.room-found p.numbers-found in
        let l : v < values_in clock = leb-false _ _ f.1.1.1.0 in search

-- ---- all tables that show the seat

-- undamaged tables with room, in which the rest of the call's tests decides
pub record Goes (t : Tables) (c : Call) (rest : List Test) : Type 0 where
  pub room : roomy t ≡ true
  pub good : sound t ≡ true
  pub rest-decides : refusal_at t c ≡ first_of rest

-- session n is open: where it stands, what it means, and its sentence of "Damaged tables"
pub record Shows (t : Tables) (n : ℕ) (x : Session) : Type 0 where
  pub place-low : n < 16
  pub there : session_at t.sessions n ≡ x
  pub own-there : seat_at t.sessions n ≡ x
  pub live-one : x.live ≡ 1
  pub facts : OpenFacts (values_in t.clock) (first_in t.clock) (stamp_in t.clock) t.log x
  pub rows_few : x.rows.0 ≤ 2048
  pub means : session (meaning t) n ≡ session_of x
  pub start-means : start_of (session (meaning t) n) ≡ x.start.0
  pub rows-mean : rows_of (session (meaning t) n) ≡ x.rows.0
  pub list-means : list_of (session (meaning t) n) ≡ entries x

-- the seat of n holds what session n means, past the table too
pub seat-means : (t : Tables) (n : ℕ) → session (meaning t) n ≡ session_of (seat_at t.sessions n)
unfolding seat_at
seat-means t n =
    ⊎_elim
    (λ (l : n < 16). session-means t n l ∙ ap (λ (b : Bool). session_of (cond b (session_at t.sessions n) freed)) (sym (lt-ltb n 16 l)))
    (λ (l : 16 ≤ n).
    session-past t n l ∙ sym (free-means freed (λ e. absurd (omega (arith, e, freed-zero.live-zero))))
    ∙ ap (λ (b : Bool). session_of (cond b (session_at t.sessions n) freed)) (sym (le-ltb n 16 l))) (lt-cases n 16)

pub seat-there : (t : Tables) (n : ℕ) → n < 16 → seat_at t.sessions n ≡ session_at t.sessions n
unfolding seat_at
seat-there t n l = ap (λ (b : Bool). cond b (session_at t.sessions n) freed) (lt-ltb n 16 l)

module _ (t : Tables) (n : ℕ) (x : Seat) (e : x ≡ seat_of t n) where
  abbrev fits : Bool
  fits = numbers_fit t.clock t.slots t.words t.heads t.log t.changes

  abbrev judged : Bool
  judged = sessions_judged t.sessions t.log (lent_clock t.clock)

  pub own-seat : x.session ≡ seat_at t.sessions n
  unfolding lent.seat_of
  own-seat = ap (λ (y : Seat). y.session) e

  places-are : x.places ≡ length t.sessions
  unfolding lent.seat_of
  places-are = ap (λ (y : Seat). y.places) e

  fit_is : x.fit ≡ leb 16 (length t.sessions) && judged
  unfolding lent.seat_of sessions_judged max_sessions
  fit_is = ap (λ (y : Seat). y.fit) e

  sound-is : roomy t ≡ true → x.fit && fits ≡ sound t
  sound-is r =
      ap (λ (b : Bool). b && fits)
      (fit_is ∙ ap (λ (b : Bool). b && judged) (le-leb 16 (length t.sessions) (room-facts t r).sessions-room))
      ∙ and_comm judged fits ∙ judged-sound-lent t r

  -- 1 and 2 are judged alike
  entered_at : (ts : List Test) → entered_by t.clock t.slots t.words t.heads t.log t.changes x.places x.fit ts
      ≡ cond (roomy t) (cond (sound t) (first_of ts) (some 2)) (some 1)
  unfolding entered_by
  entered_at ts = rw (room-is t x.places places-are) (go (roomy t) refl)
    where
      go : (b : Bool) → roomy t ≡ b
          → cond b (cond (x.fit && fits) (first_of ts) (some 2)) (some 1) ≡ cond b (cond (sound t) (first_of ts) (some 2)) (some 1)
      go true r = ap (λ (g : Bool). cond g (first_of ts) (some 2)) (sound-is r)
      go false r = refl

  -- what the number of a test, and what none, leave of the call's own
  refuses : (ts : List Test) (c : Call) (k : ℕ) → (sound t ≡ true → first_of ts ≡ some k → first_of (tests (meaning t) c) ≡ some k)
      → entered_by t.clock t.slots t.words t.heads t.log t.changes x.places x.fit ts ≡ some k
      → refusal_at t c ≡ some k
  unfolding refusal_at
  refuses ts c k f z = go (roomy t) (sound t) f (sym (entered_at ts) ∙ z)
    where
      go : (a b : Bool) → (b ≡ true → first_of ts ≡ some k → first_of (tests (meaning t) c) ≡ some k)
          → cond a (cond b (first_of ts) (some 2)) (some 1) ≡ some k
          → cond a (cond b (first_of (tests (meaning t) c)) (some 2)) (some 1) ≡ some k
      go true true g q = g refl q
      go true false g q = q
      go false b g q = q

  goes : (ts : List Test) (c : Call) (rest : List Test)
      → (sound t ≡ true → first_of ts ≡ none → first_of (tests (meaning t) c) ≡ first_of rest)
      → entered_by t.clock t.slots t.words t.heads t.log t.changes x.places x.fit ts ≡ none → Goes t c rest
  unfolding refusal_at
  goes ts c rest f z = go (roomy t) (sound t) refl refl (sym (entered_at ts) ∙ z)
    where
      go : (a b : Bool) → roomy t ≡ a → sound t ≡ b → cond a (cond b (first_of ts) (some 2)) (some 1) ≡ none → Goes t c rest
      go true true r s q = record { room = r; good = s; rest-decides = rw (r, s) (f s q) }
      go true false r s q = absurd (some-ne-none 2 q)
      go false b r s q = absurd (some-ne-none 1 q)

  -- an open session of undamaged tables
  shows : sound t ≡ true → n < 16 → x.session.live ≡ 1 → Shows t n x.session
  shows good l live =
      let p = parts t good in
      let s = session_at t.sessions n in
      let there : s ≡ x.session = sym (own-seat ∙ seat-there t n l) in
      let facts : OpenFacts (values_in t.clock) (first_in t.clock) (stamp_in t.clock) t.log x.session =
      subst (λ (y : Session). OpenFacts (values_in t.clock) (first_in t.clock) (stamp_in t.clock) t.log y) there
      (open_at t.clock t.log t.sessions p.sessions-fit n l (ap (λ (y : Session). y.live) there ∙ live)) in
      let means : session (meaning t) n ≡ session_of x.session = seat-means t n ∙ ap session_of (sym own-seat) in
      record {
        place-low = l;
        there = there;
        own-there = sym own-seat;
        live-one = live;
        facts = facts;
        rows_few = open-rows-few t.clock t.log p.clock-fits p.records-fit x.session facts;
        means = means;
        start-means = ap start_of means ∙ start_of-means x.session live;
        rows-mean = ap rows_of means ∙ rows_of-means x.session live;
        list-means = ap list_of means ∙ list_of-means x.session live;
      }

  -- 5 is judged alike, and such a session is within reach
  shut-is : not (eqb x.session.live 1) ≡ is_free (session (meaning t) n)
  shut-is =
      ap (λ (y : Session). not (eqb y.live 1)) own-seat ∙ sym (is_free-means (seat_at t.sessions n)) ∙ ap is_free (sym (seat-means t n))

  never-strange : sound t ≡ true → leb max_sessions n ≡ false → not (eqb x.session.live 1) ≡ false → (strange t.clock x).0 ≡ false
  unfolding max_sessions in_reach
  never-strange good a b =
      let s = shows good (leb-false 16 n a) (eqb-true _ _ (not-false _ b)) in
      ap not (and_both _ _ (and_both _ _ (le-leb _ _ s.facts.start-old) (le-leb _ _ s.rows_few)) (le-leb _ _ s.facts.count_low))

  opening : sound t ≡ true → (us : List Test)
      → first_of (no_session n ∷ shut x ∷ strange t.clock x ∷ us) ≡ first_of (no_session n ∷ not_open (session (meaning t) n) ∷ us)
  opening good us =
      first-skips (no_session n) (shut x) (strange t.clock x) us (never-strange good)
      ∙ ap (λ (b : Bool). cond (leb max_sessions n) (some 4) (cond b (some 5) (first_of us))) shut-is

  module _ (c : Call) (rest : List Test) where
    -- a call whose table begins with 4
    module _ (b : tests (meaning t) c ≡ no_session n ∷ rest) where
      pub placed-refuses : (k : ℕ) → some k ≡ placed_by t.clock t.slots t.words t.heads t.log t.changes x.places x.fit n → refusal_at t c ≡ some k
      placed-refuses k q =
          refuses (no_session n ∷ []) c k (λ good z. ap first_of b ∙ first-begins (no_session n ∷ []) rest k z) (sym q)

      pub placed-goes : none ≡ placed_by t.clock t.slots t.words t.heads t.log t.changes x.places x.fit n → Goes t c rest
      placed-goes q = goes (no_session n ∷ []) c rest (λ good z. ap first_of b ∙ first-goes-on (no_session n ∷ []) rest z) (sym q)

    -- with 4 and 5
    module _ (b : tests (meaning t) c ≡ no_session n ∷ not_open (session (meaning t) n) ∷ rest) where
      abbrev five : List Test
      five = no_session n ∷ not_open (session (meaning t) n) ∷ []

      pub opened-refuses : (k : ℕ) → some k ≡ opened_by t.clock t.slots t.words t.heads t.log t.changes x n → refusal_at t c ≡ some k
      opened-refuses k q =
          refuses (no_session n ∷ shut x ∷ strange t.clock x ∷ []) c k
          (λ good z. ap first_of b ∙ first-begins five rest k (sym (opening good []) ∙ z)) (sym q)

      pub opened-goes : none ≡ opened_by t.clock t.slots t.words t.heads t.log t.changes x n → Goes t c rest
      opened-goes q =
          goes (no_session n ∷ shut x ∷ strange t.clock x ∷ []) c rest
          (λ good z. ap first_of b ∙ first-goes-on five rest (sym (opening good []) ∙ z)) (sym q)

      pub opened-shows : none ≡ opened_by t.clock t.slots t.words t.heads t.log t.changes x n → Shows t n x.session
      opened-shows q =
          let o = opened-passed t.clock t.slots t.words t.heads t.log t.changes x n q in
          shows (opened-goes q).good o.place-low o.live-one

    -- with 4, 5 and 6
    module _ (v : ℕ) (b : tests (meaning t) c ≡ no_session n ∷ not_open (session (meaning t) n) ∷ no_value (meaning t) v ∷ rest) where
      abbrev six : List Test
      six = no_session n ∷ not_open (session (meaning t) n) ∷ no_value (meaning t) v ∷ []

      alike : sound t ≡ true → first_of (no_session n ∷ shut x ∷ strange t.clock x ∷ unknown t.clock v ∷ []) ≡ first_of six
      alike good =
          opening good (unknown t.clock v ∷ [])
          ∙ ap (λ (m : ℕ). first_of (no_session n ∷ not_open (session (meaning t) n) ∷ (leb m v, 6) ∷ [])) (sym (values-means t))

      pub valued-refuses : (k : ℕ) → some k ≡ valued_by t.clock t.slots t.words t.heads t.log t.changes x n v → refusal_at t c ≡ some k
      valued-refuses k q =
          refuses (no_session n ∷ shut x ∷ strange t.clock x ∷ unknown t.clock v ∷ []) c k
          (λ good z. ap first_of b ∙ first-begins six rest k (sym (alike good) ∙ z)) (sym q)

      pub valued-goes : none ≡ valued_by t.clock t.slots t.words t.heads t.log t.changes x n v → Goes t c rest
      valued-goes q =
          goes (no_session n ∷ shut x ∷ strange t.clock x ∷ unknown t.clock v ∷ []) c rest
          (λ good z. ap first_of b ∙ first-goes-on six rest (sym (alike good) ∙ z)) (sym q)

      pub valued-shows : none ≡ valued_by t.clock t.slots t.words t.heads t.log t.changes x n v → Shows t n x.session
      valued-shows q =
          let o = valued-passed t.clock t.slots t.words t.heads t.log t.changes x n v q in
          shows (valued-goes q).good o.place-low o.live-one
