-- Number 2 put together: the number tables fit and each session is judged well exactly if the tables are sound.
use mathlib.Core.Path.{◌≡◌, refl, sym, ap, ◌∙◌}
use mathlib.Core.Bool.{Bool, true, false, ◌&&◌, ◌||◌}
use mathlib.Core.List.{List}
use Prim.Native.Nat.{ℕ, ◌≤◌}
use native.Mathlib.Omega.{arith}
use lib.ListN.{length}
use Rattle.bits.proofs.AllLaws.{all-ext}
use Rattle.rules.specs.Limits.{max_sessions}
use Rattle.tables.specs.declared.clock.Clock.{Clock}
use Rattle.tables.specs.declared.session.Session.{Session}
use Rattle.tables.specs.Cells.{Tables, values_in, first_in, stamp_in}
use Rattle.tables.specs.Clock.{clock_in, lent_clock}
use Rattle.tables.specs.Sessions.{session_at}
use Rattle.tables.specs.Room.{roomy}
use Rattle.tables.specs.Damage.{all_zero, open_fits, clock_fits, records_fit, session_fits, sessions_fit, sound}
use Rattle.tables.proofs.Access.{clock-long}
use Rattle.tables.proofs.Facts.{room-facts, clock-limits, rows-high-at}
use Rattle.tables.proofs.Sessions.{open-facts}
use Rattle.damage.specs.Numbers.{numbers_fit}
use Rattle.session_damage.specs.Judged.{judgeable, session_judged, sessions_judged}
use Rattle.session_damage.proofs.JudgedLaws.{limits-made}
use Rattle.damage.proofs.NumberLaws.{number-parts}

-- a test in front of another that implies it
implied : (z j o : Bool) → (o ≡ true → j ≡ true) → z || j && o ≡ z || o
implied true j o h = refl
implied false j true h = ap (λ (t : Bool). t && true) (h refl)
implied false true false h = refl
implied false false false h = refl

-- where the clock and the records are sound, an open session that fits can be judged
pub judged-fits : (clock log : List ℕ) (x : Session) → 2048 ≤ length log → clock_fits clock ≡ true → records_fit clock log ≡ true
    → session_judged x log (clock_in clock) ≡ session_fits (values_in clock) (first_in clock) (stamp_in clock) log x
unfolding session_judged session_fits clock_in
judged-fits clock log x l f r =
    implied (all_zero x) (judgeable x log (clock_in clock)) (open_fits (values_in clock) (first_in clock) (stamp_in clock) log x)
    (λ e. let o = open-facts (values_in clock) (first_in clock) (stamp_in clock) log x e in
    let c = clock-limits clock f in
    limits-made x log (clock_in clock) (record {
      log-room = l;
      start-low = omega (arith, o.start-old, c.few-records);
      rows-low = omega (arith, o.rows_then, rows-high-at clock log r x.start.0 o.start-old, c.few-rows);
      values_low = c.few-values;
    }))

module _ (t : Tables) where
  abbrev fits : Bool
  fits = numbers_fit t.clock t.slots t.words t.heads t.log t.changes

  sessions-fit : 2048 ≤ length t.log → fits ≡ true
      → sessions_judged t.sessions t.log (clock_in t.clock) ≡ sessions_fit t.clock t.log t.sessions
  unfolding sessions_judged sessions_fit
  sessions-fit h e =
      let p = number-parts t.clock t.slots t.words t.heads t.log t.changes e in
      all-ext (λ i. session_judged (session_at t.sessions i) t.log (clock_in t.clock))
      (λ i. session_fits (values_in t.clock) (first_in t.clock) (stamp_in t.clock) t.log (session_at t.sessions i)) max_sessions
      (λ i l. judged-fits t.clock t.log (session_at t.sessions i) h p.clock-fits p.records-fit)

  agree : (a b c : Bool) → (a ≡ true → b ≡ c) → a && b ≡ a && c
  agree true b c h = h refl
  agree false b c h = refl

  -- the whole of number 2
  pub judged-sound : roomy t ≡ true → fits && sessions_judged t.sessions t.log (clock_in t.clock) ≡ sound t
  unfolding sound numbers_fit
  judged-sound r =
      agree fits (sessions_judged t.sessions t.log (clock_in t.clock)) (sessions_fit t.clock t.log t.sessions)
      (sessions-fit (room-facts t r).log-room)

  -- and with the clock as it is read before the tables' lengths are known
  pub judged-sound-lent : roomy t ≡ true → fits && sessions_judged t.sessions t.log (lent_clock t.clock) ≡ sound t
  judged-sound-lent r =
      ap (λ (c : Clock). fits && sessions_judged t.sessions t.log c)
      (sym (clock-long t.clock (clock_in t.clock) (room-facts t r).clock-room refl))
      ∙ judged-sound r
