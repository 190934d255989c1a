-- Cells that are not damaged mean a state that is not damaged.
use mathlib.Core.Path.{◌≡◌, sym, ◌∙◌}
use mathlib.Core.Bool.{true, false}
use mathlib.Core.Logic.{◌⊎◌, inl, inr, ⊎_elim}
use Prim.Native.Nat.{ℕ, suc, ◌+◌, ◌≤◌, ◌<◌}
use native.Mathlib.Omega.{arith}
use Rattle.bits.proofs.Cases.{eq-cases, lt-cases}
use Rattle.bits.proofs.TabLaws.{length-tab}
use Rattle.rules.specs.Limits.{max_sessions, max_entries}
use Rattle.rules.specs.State.{chain, session}
use Rattle.rules.specs.Log.{stamp_of}
use Rattle.rules.specs.Log as log
use Rattle.rules.proofs.Invariant.{LogFits, Falls, VectorsFit, OpenFits, SessionFits, Undamaged}
use Rattle.tables.specs.declared.session.Session.{Session}
use Rattle.tables.specs.Cells.{Tables, values_in, first_in, stamp_in, slots_in, slot_stamp, head_of}
use Rattle.tables.specs.Sessions.{session_at}
use Rattle.tables.specs.Meaning.{record_at, version_at, chain_at, entry_at, entries, session_of, meaning}
use Rattle.tables.specs.Damage.{sound}
use Rattle.tables.proofs.Stretch.{tab-stretch}
use Rattle.tables.proofs.Facts.{Parts, parts, ClockFacts, clock-facts, clock-limits}
use Rattle.tables.proofs.Slots.{each-head, slot-stamp-low, vector-bits}
use Rattle.tables.proofs.Sessions.{OpenFacts, open_at, open-rows-few}
use Rattle.tables.proofs.Means.{stamp-means, changes-means, rows_at-means, chain-means, session-means, session-past, open-means}
use Rattle.tables.proofs.Means.{free-means, length-entries}
use Rattle.tables.proofs.Fits.{records-fit, chain-falls, chain-vectors, entries_fit, entries-once}

module _ (t : Tables) (p : Parts t) where
  clock : ClockFacts t.clock
  clock = clock-facts t.clock p.clock-fits

  -- the records, their row counts and their changes
  log-fits : LogFits (meaning t).values (meaning t).first (meaning t).log (meaning t).rows
  unfolding meaning
  log-fits =
      rw (tab-stretch (record_at t.log t.changes) (stamp_in t.clock))
      (records-fit t.clock t.log t.changes p.records-fit p.changes-fit (stamp_in t.clock) 0 (omega arith))

  -- the versions of a value
  chains-fall : (v : ℕ) → v < values_in t.clock → Falls (suc (stamp_of (meaning t).log)) (chain (meaning t).chains v)
  unfolding chain_at
  chains-fall v h =
      let d = each-head t.clock t.slots t.heads p.heads-fit v h in
      rw (stamp-means t, chain-means t v h)
      (chain-falls t.clock t.slots t.words p.slots-fit (head_of t.heads v + 1) (head_of t.heads v)
      (suc (stamp_in t.clock)) d.head-low (omega arith)
      (omega (arith, slot-stamp-low t.clock t.slots p.slots-fit (head_of t.heads v) d.head-low)))

  slot-vector : (i : ℕ) → i < slots_in t.clock → (r : ℕ)
      → log.rows_at (meaning t).first (meaning t).log (version_at t.slots t.words i).stamp ≤ r
      → (version_at t.slots t.words i).vector r ≡ false
  unfolding version_at
  slot-vector i l r h =
      vector-bits t.clock t.log t.slots t.words p.vectors-fit i l r
      (omega (arith, rows_at-means t (slot_stamp t.slots i) (slot-stamp-low t.clock t.slots p.slots-fit i l)))

  vectors-fit : (v : ℕ) → v < values_in t.clock → VectorsFit (meaning t).first (meaning t).log (chain (meaning t).chains v)
  unfolding chain_at
  vectors-fit v h =
      rw (chain-means t v h)
      (chain-vectors t.clock t.slots t.words p.slots-fit (meaning t).first (meaning t).log slot-vector
      (head_of t.heads v + 1) (head_of t.heads v)
      (each-head t.clock t.slots t.heads p.heads-fit v h).head-low)

  -- an open session
  open-fits : (x : Session) → OpenFacts (values_in t.clock) (first_in t.clock) (stamp_in t.clock) t.log x
      → OpenFits (values_in t.clock) (meaning t).first (meaning t).log x.start.0 x.rows.0 (entries x)
  unfolding max_entries
  open-fits x f = record {
    start-old = omega (arith, stamp-means t, f.start-old);
    start-rows = f.rows_then ∙ sym (rows_at-means t x.start.0 f.start-old);
    short = omega (arith, length-entries x, f.count_low);
    once =
        rw (tab-stretch (entry_at x) x.count)
        (entries-once (values_in t.clock) (first_in t.clock) (stamp_in t.clock) t.log x f x.count 0 (omega arith));
    fit =
        rw (tab-stretch (entry_at x) x.count)
        (entries_fit (values_in t.clock) (first_in t.clock) (stamp_in t.clock) t.log x f
        (clock-limits t.clock p.clock-fits).few-values
        (open-rows-few t.clock t.log p.clock-fits p.records-fit x f) x.count 0 (omega arith));
  }

  -- any session
  session-fits : (i : ℕ) → SessionFits (values_in t.clock) (meaning t).first (meaning t).log (session (meaning t) i)
  session-fits i =
      ⊎_elim (λ (l : i < 16). at l (eq-cases (session_at t.sessions i).live 1)) (λ (l : 16 ≤ i). rw (session-past t i l) tt)
      (lt-cases i 16)
    where
      x : Session
      x = session_at t.sessions i

      at : i < 16 → (x.live ≡ 1) ⊎ (x.live ≡ 1 → ⊥)
          → SessionFits (values_in t.clock) (meaning t).first (meaning t).log (session (meaning t) i)
      at l (inl e) =
          rw (session-means t i l, open-means x e) (open-fits x (open_at t.clock t.log t.sessions p.sessions-fit i l e))
      at l (inr n) = rw (session-means t i l, free-means x n) tt

pub means-undamaged : (t : Tables) → sound t ≡ true → Undamaged (meaning t)
unfolding meaning max_sessions
means-undamaged t e =
    let p = parts t e in
    let f = clock-facts t.clock p.clock-fits in
    record {
      values_low = f.values_low;
      values-high = f.values-high;
      rows-high = f.rows-high;
      first-high = f.first-high;
      stamp-high = omega (arith, stamp-means t, f.stamp-high);
      slots-low = f.slots-low;
      slots-high = f.slots-high;
      changes-high = omega (arith, changes-means t p.records-fit, f.changes-high);
      log-fits = log-fits t p;
      chains-are = length-tab (chain_at t.slots t.words t.heads) (values_in t.clock);
      chains-fall = chains-fall t p;
      vectors-fit = vectors-fit t p;
      sessions-are = length-tab (λ i. session_of (session_at t.sessions i)) 16;
      sessions-fit = session-fits t p;
    }
