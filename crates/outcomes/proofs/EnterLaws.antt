-- Tables of tests: one that begins with another, and a test that never decides. The shared refusals, a test at a time, as the code
-- judges them.
use mathlib.Core.Path.{◌≡◌, refl, ap, sym, ◌∙◌}
use mathlib.Core.Bool.{Bool, true, false, cond, not, ◌&&◌}
use mathlib.Core.Option.{none, some, none-ne-some, some-ne-none, Option}
use mathlib.Core.List.{List, [], ◌∷◌, ◌++◌}
use Prim.Native.Nat.{ℕ, ◌≤◌, ◌<◌}
use native.Mathlib.Omega.{arith}
use borrow.Author.Tests.{not-true, not-false, le-leb, lt-leb, eq-eqb, ne_eqb}
use lib.Dec.{leb}
use lib.ListN.{length}
use Rattle.rules.specs.Refusals.{Test, first_of, no_session}
use Rattle.rules.specs.Limits.{max_sessions}
use Rattle.tables.specs.declared.clock.Clock.{Clock}
use Rattle.tables.specs.Cells.{stamp_in}
use Rattle.tables.specs.Clock.{clock_in}
use Rattle.tables.specs.Room.{room_for, Roomy}
use Rattle.damage.specs.Numbers.{numbers_fit}
use Rattle.tables.proofs.Facts.{room-lengths}
use Rattle.lent.specs.declared.seats.Seat.{Seat}
use Rattle.outcomes.specs.Enter.{entered_by, placed_by, shut, in_reach, strange, unknown, opened_by, valued_by}

-- a number given by the beginning of a table is given by the table
pub first-begins : (ts us : List Test) (k : ℕ) → first_of ts ≡ some k → first_of (ts ++ us) ≡ some k
first-begins [] us k e = absurd (none-ne-some k e)
first-begins (t ∷ ts) us k e = go t.0 e (first-begins ts us k)
  where
    go : (b : Bool) → cond b (some t.1) (first_of ts) ≡ some k → (first_of ts ≡ some k → first_of (ts ++ us) ≡ some k)
        → cond b (some t.1) (first_of (ts ++ us)) ≡ some k
    go true p ih = p
    go false p ih = ih p

-- where the beginning gives none, the rest decides
pub first-goes-on : (ts us : List Test) → first_of ts ≡ none → first_of (ts ++ us) ≡ first_of us
first-goes-on [] us e = refl
first-goes-on (t ∷ ts) us e = go t.0 e (first-goes-on ts us)
  where
    go : (b : Bool) → cond b (some t.1) (first_of ts) ≡ none → (first_of ts ≡ none → first_of (ts ++ us) ≡ first_of us)
        → cond b (some t.1) (first_of (ts ++ us)) ≡ first_of us
    go true p ih = absurd (some-ne-none t.1 p)
    go false p ih = ih p

-- a third test that fails where the two before it do
pub first-skips : (a b c : Test) (ts : List Test) → (a.0 ≡ false → b.0 ≡ false → c.0 ≡ false)
    → first_of (a ∷ b ∷ c ∷ ts) ≡ first_of (a ∷ b ∷ ts)
first-skips a b c ts h = go a.0 b.0 c.0 h
  where
    go : (x y z : Bool) → (x ≡ false → y ≡ false → z ≡ false)
        → cond x (some a.1) (cond y (some b.1) (cond z (some c.1) (first_of ts)))
        ≡ cond x (some a.1) (cond y (some b.1) (first_of ts))
    go true y z f = refl
    go false true z f = refl
    go false false z f = ap (λ (w : Bool). cond w (some c.1) (first_of ts)) (f refl refl)

-- ---- 1 and 2, then any tests

module _ (clock slots words heads log changes : List ℕ) (places : ℕ) (fit : Bool) where
  abbrev room : Bool
  room = room_for clock slots words heads log changes places

  abbrev fits : Bool
  fits = numbers_fit clock slots words heads log changes

  abbrev entered : List Test → Option ℕ
  entered = entered_by clock slots words heads log changes places fit

  -- what the three tests leave
  pub tests_left : (ts : List Test) → room ≡ true → fit ≡ true → fits ≡ true → first_of ts ≡ entered ts
  unfolding entered_by
  tests_left ts r f e = rw (r, f, e)

  module _ (b : Bool) (e : b ≡ room) where
    pub no_room : (ts : List Test) → not b ≡ true → some 1 ≡ entered ts
    unfolding entered_by
    no_room ts h = rw (sym e ∙ not-true b h)

    has_room : not b ≡ false → room ≡ true
    has_room h = sym e ∙ not-false b h

    module _ (h : not b ≡ false) where
      pub found-room : Roomy clock slots words heads log changes
      found-room = room-lengths clock slots words heads log changes places (has_room h)

      pub sessions-unfit : (ts : List Test) → not fit ≡ true → some 2 ≡ entered ts
      unfolding entered_by
      sessions-unfit ts f = rw (has_room h, not-true fit f)

      module _ (f : not fit ≡ false) (d : Bool) (g : d ≡ fits) where
        pub numbers-unfit : (ts : List Test) → not d ≡ true → some 2 ≡ entered ts
        unfolding entered_by
        numbers-unfit ts k = rw (has_room h, not-false fit f, sym g ∙ not-true d k)

        pub first-decides : (ts : List Test) (o : Option ℕ) → not d ≡ false → o ≡ first_of ts → o ≡ entered ts
        first-decides ts o k q = q ∙ tests_left ts (has_room h) (not-false fit f) (sym g ∙ not-false d k)

  -- what "no refusal" says of the tables and of the tests
  pub record Passes (ts : List Test) : Type 0 where
    pub room-found : room ≡ true
    pub sessions-found : fit ≡ true
    pub numbers-found : fits ≡ true
    pub tests-found : first_of ts ≡ none

  pub passes : (ts : List Test) → entered ts ≡ none → Passes ts
  unfolding entered_by
  passes ts e = go room fit fits refl refl refl e
    where
      go : (a b c : Bool) → room ≡ a → fit ≡ b → fits ≡ c → cond a (cond (b && c) (first_of ts) (some 2)) (some 1) ≡ none → Passes ts
      go true true true p q r z = record { room-found = p; sessions-found = q; numbers-found = r; tests-found = z }
      go true true false p q r z = absurd (some-ne-none 2 z)
      go true false c p q r z = absurd (some-ne-none 2 z)
      go false b c p q r z = absurd (some-ne-none 1 z)

  -- more tests: they decide where the first ones pass, and do not where those refuse
  pub goes_on : (ts us : List Test) → entered ts ≡ none → first_of us ≡ entered (ts ++ us)
  goes_on ts us e =
      let p = passes ts e in
      sym (first-goes-on ts us p.tests-found) ∙ tests_left (ts ++ us) p.room-found p.sessions-found p.numbers-found

  pub stays : (ts us : List Test) (k : ℕ) → entered ts ≡ some k → some k ≡ entered (ts ++ us)
  unfolding entered_by
  stays ts us k e = go room (fit && fits) e
    where
      go : (a b : Bool) → cond a (cond b (first_of ts) (some 2)) (some 1) ≡ some k
          → some k ≡ cond a (cond b (first_of (ts ++ us)) (some 2)) (some 1)
      go true true z = sym (first-begins ts us k z)
      go true false z = sym z
      go false b z = sym z

-- ---- 4

pub past-table : (n : ℕ) → 15 < n → some 4 ≡ first_of (no_session n ∷ [])
unfolding max_sessions
past-table n h = rw (le-leb 16 n h)

pub in_table : (n : ℕ) → n ≤ 15 → none ≡ first_of (no_session n ∷ [])
unfolding max_sessions
in_table n h = rw (lt-leb 16 n (omega arith))

-- ---- 5 and a seat's reach, then 6

module _ (clock slots words heads log changes : List ℕ) (x : Seat) (n : ℕ) where
  abbrev tests : List Test → Option ℕ
  tests = entered_by clock slots words heads log changes x.places x.fit

  -- the clock that a passed test leaves
  clock-there : (ts : List Test) → tests ts ≡ none → 6 ≤ length clock
  clock-there ts e =
      (room-lengths clock slots words heads log changes x.places (passes clock slots words heads log changes x.places x.fit ts
      e).room-found).clock-room

  pub opened-stays : (k : ℕ) → some k ≡ placed_by clock slots words heads log changes x.places x.fit n
      → some k ≡ opened_by clock slots words heads log changes x n
  opened-stays k e = stays clock slots words heads log changes x.places x.fit (no_session n ∷ []) (shut x ∷ strange clock x ∷ []) k (sym e)

  module _ (e : none ≡ placed_by clock slots words heads log changes x.places x.fit n) where
    placed-none : tests (no_session n ∷ []) ≡ none
    placed-none = sym e

    pub placed-clock : 6 ≤ length clock
    placed-clock = clock-there (no_session n ∷ []) placed-none

    on : first_of (shut x ∷ strange clock x ∷ []) ≡ opened_by clock slots words heads log changes x n
    on = goes_on clock slots words heads log changes x.places x.fit (no_session n ∷ []) (shut x ∷ strange clock x ∷ []) placed-none

    pub not-open : (x.session.live ≡ 1 → ⊥) → some 5 ≡ opened_by clock slots words heads log changes x n
    not-open l = ap (λ (b : Bool). cond (not b) (some 5) (first_of (strange clock x ∷ []))) (sym (ne_eqb x.session.live 1 l)) ∙ on

    module _ (l : x.session.live ≡ 1) (c : Clock) (k : c ≡ clock_in clock) (b : Bool)
        (q : b ≡ in_reach c.stamp.0 x.session.start.0 x.session.rows.0 x.session.count) where
      reached : b ≡ in_reach (stamp_in clock) x.session.start.0 x.session.rows.0 x.session.count
      unfolding clock_in
      reached = q ∙ ap (λ (d : Clock). in_reach d.stamp.0 x.session.start.0 x.session.rows.0 x.session.count) k

      left : cond (not b) (some 2) none ≡ opened_by clock slots words heads log changes x n
      left =
          ap (λ (r : Bool). cond (not r) (some 2) none) reached
          ∙ ap (λ (z : Bool). cond (not z) (some 5) (first_of (strange clock x ∷ []))) (sym (eq-eqb x.session.live 1 l)) ∙ on

      pub out-of-reach : not b ≡ true → some 2 ≡ opened_by clock slots words heads log changes x n
      out-of-reach h = ap (λ (z : Bool). cond z (some 2) none) (sym h) ∙ left

      pub opened-passes : not b ≡ false → none ≡ opened_by clock slots words heads log changes x n
      opened-passes h = ap (λ (z : Bool). cond z (some 2) none) (sym h) ∙ left

  module _ (v : ℕ) where
    pub valued-stays : (k : ℕ) → some k ≡ opened_by clock slots words heads log changes x n
        → some k ≡ valued_by clock slots words heads log changes x n v
    valued-stays k e =
        stays clock slots words heads log changes x.places x.fit (no_session n ∷ shut x ∷ strange clock x ∷ [])
        (unknown clock v ∷ []) k (sym e)

    module _ (e : none ≡ opened_by clock slots words heads log changes x n) where
      pub opened-clock : 6 ≤ length clock
      opened-clock = clock-there (no_session n ∷ shut x ∷ strange clock x ∷ []) (sym e)

      module _ (c : Clock) (k : c ≡ clock_in clock) where
        left-value : cond (leb c.values.0 v) (some 6) none ≡ valued_by clock slots words heads log changes x n v
        unfolding clock_in
        left-value =
            ap (λ (d : Clock). cond (leb d.values.0 v) (some 6) none) k
            ∙ goes_on clock slots words heads log changes x.places x.fit (no_session n ∷ shut x ∷ strange clock x ∷ [])
            (unknown clock v ∷ [])
            (sym e)

        pub no_value : c.values.0 ≤ v → some 6 ≡ valued_by clock slots words heads log changes x n v
        no_value l = ap (λ (b : Bool). cond b (some 6) none) (sym (le-leb c.values.0 v l)) ∙ left-value

        pub valued-passes : v < c.values.0 → none ≡ valued_by clock slots words heads log changes x n v
        valued-passes l = ap (λ (b : Bool). cond b (some 6) none) (sym (lt-leb c.values.0 v l)) ∙ left-value
