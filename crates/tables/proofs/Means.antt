-- What the lent tables mean: the log's stretches are stretches of the change table; the chain of a value and the session at a
-- place are those of its cells.
use mathlib.Core.Path.{◌≡◌, refl, sym, ap, ◌∙◌}
use mathlib.Core.Bool.{Bool, true, false, not, cond, true≢false}
use mathlib.Core.List.{List, [], ◌∷◌, ◌++◌}
use mathlib.Core.Logic.{◌⊎◌, inl, inr}
use Prim.Native.Nat.{ℕ, zero, suc, ◌≤◌, ◌<◌}
use native.Mathlib.Nat.{eq-or-lt_of_le, le_of_suc-le-suc}
use native.Mathlib.Omega.{arith}
use borrow.Author.Tests.{eq-eqb, ne_eqb, eqb-true}
use lib.Dec.{eqb}
use lib.ListN.{length, get_or, get_or-eq_default}
use Rattle.bits.specs.Tab.{tab}
use Rattle.bits.proofs.TabLaws.{length-tab, get_or-tab}
use Rattle.rules.specs.State.{Change, Record, Log, free, opened, chain, session, is_free, start_of, rows_of, list_of}
use Rattle.rules.specs.Log.{stamp_of, up_to, above, between, changes_of, all_changes}
use Rattle.rules.specs.Log as log
use Rattle.rules.proofs.Changes.{changes_of-snoc}
use Rattle.tables.specs.declared.session.Session.{Session}
use Rattle.tables.specs.Cells.{Tables, values_in, first_in, stamp_in, rows_in, slots_in, changes_in, rows_in_log, end_at}
use Rattle.tables.specs.Sessions.{session_at}
use Rattle.tables.specs.Stretch.{stretch}
use Rattle.tables.specs.Meaning.{change_at, record_at, chain_at, entry_at, entries, session_of, meaning}
use Rattle.tables.specs.Damage.{records_fit}
use Rattle.tables.proofs.Stretch.{stretch-none, stretch-step, stretch-join, length-stretch, tab-stretch, take-tab, drop-tab}
use Rattle.tables.proofs.Stretch.{part-tab}
use Rattle.tables.proofs.Facts.{each-record, last_end, ends-order}

-- ---- the counts

module _ (t : Tables) where
  pub values-means : (meaning t).values ≡ values_in t.clock
  unfolding meaning
  values-means = refl

  pub first-means : (meaning t).first ≡ first_in t.clock
  unfolding meaning
  first-means = refl

  pub rows-means : (meaning t).rows ≡ rows_in t.clock
  unfolding meaning
  rows-means = refl

  pub slots-means : (meaning t).slots ≡ slots_in t.clock
  unfolding meaning
  slots-means = refl

  pub log-means : (meaning t).log ≡ tab (record_at t.log t.changes) (stamp_in t.clock)
  unfolding meaning
  log-means = refl

  pub stamp-means : stamp_of (meaning t).log ≡ stamp_in t.clock
  unfolding meaning stamp_of
  stamp-means = length-tab (record_at t.log t.changes) (stamp_in t.clock)

-- ---- the changes of some records

module _ (c log : List ℕ) (e : records_fit c log ≡ true) (changes : List ℕ) where
  -- the changes of records a + 1 to b are one stretch of the change table
  records-changes : (a b : ℕ) → a ≤ b → b ≤ stamp_in c
      → changes_of (stretch (record_at log changes) a b) ≡ stretch (change_at changes) (end_at log a) (end_at log b)
  unfolding record_at
  records-changes a zero p q =
      let z : a ≡ 0 = omega arith in
      rw (z, stretch-none (record_at log changes) 0 0 (omega arith), stretch-none (change_at changes) 0 0 (omega arith))
  records-changes a (suc b) p q = go (eq-or-lt_of_le p) (λ h. records-changes a b h (omega arith))
    where
      go : (a ≡ suc b) ⊎ (a < suc b)
          → (a ≤ b → changes_of (stretch (record_at log changes) a b) ≡ stretch (change_at changes) (end_at log a) (end_at log b))
          → changes_of (stretch (record_at log changes) a (suc b)) ≡ stretch (change_at changes) (end_at log a) (end_at log (suc b))
      go (inl z) ih =
          rw (
            z,
            stretch-none (record_at log changes) (suc b) (suc b) (omega arith),
            stretch-none (change_at changes) (end_at log (suc b)) (end_at log (suc b)) (omega arith),
          )
      go (inr l) ih =
          ap changes_of (stretch-step (record_at log changes) a b (le_of_suc-le-suc l))
          ∙ changes_of-snoc (stretch (record_at log changes) a b) (record_at log changes b)
          ∙ ap (λ (l : List Change). l ++ (record_at log changes b).changes) (ih (le_of_suc-le-suc l))
          ∙ stretch-join (change_at changes) (end_at log a) (end_at log b) (end_at log (suc b))
          (ends-order c log e a b (le_of_suc-le-suc l) (omega arith))
          (each-record c log e b q).ends-rise

module _ (t : Tables) (e : records_fit t.clock t.log ≡ true) where
  -- records a + 1 to b
  pub between-means : (a b : ℕ) → a ≤ b → b ≤ stamp_in t.clock
      → changes_of (between (meaning t).log a b) ≡ stretch (change_at t.changes) (end_at t.log a) (end_at t.log b)
  unfolding meaning between
  between-means a b h l =
      ap changes_of (part-tab (record_at t.log t.changes) a b (stamp_in t.clock) h l)
      ∙ records-changes t.clock t.log e t.changes a b h l

  -- records 1 to s
  pub up_to-means : (s : ℕ) → s ≤ stamp_in t.clock
      → changes_of (up_to (meaning t).log s) ≡ stretch (change_at t.changes) 0 (end_at t.log s)
  unfolding meaning up_to
  up_to-means s h =
      ap changes_of (take-tab (record_at t.log t.changes) s (stamp_in t.clock) h)
      ∙ records-changes t.clock t.log e t.changes 0 s (omega arith) h

  -- the records above s
  pub above-means : (s : ℕ) → s ≤ stamp_in t.clock
      → changes_of (above (meaning t).log s) ≡ stretch (change_at t.changes) (end_at t.log s) (changes_in t.clock)
  unfolding meaning above
  above-means s h =
      ap changes_of (drop-tab (record_at t.log t.changes) s (stamp_in t.clock) h)
      ∙ records-changes t.clock t.log e t.changes s (stamp_in t.clock) h (omega arith)
      ∙ ap (stretch (change_at t.changes) (end_at t.log s)) (last_end t.clock t.log e)

  -- all of them
  pub all-means : all_changes (meaning t).log ≡ stretch (change_at t.changes) 0 (changes_in t.clock)
  unfolding meaning all_changes
  all-means =
      ap changes_of (tab-stretch (record_at t.log t.changes) (stamp_in t.clock))
      ∙ records-changes t.clock t.log e t.changes 0 (stamp_in t.clock) (omega arith) (omega arith)
      ∙ ap (stretch (change_at t.changes) 0) (last_end t.clock t.log e)

  pub changes-means : length (all_changes (meaning t).log) ≡ changes_in t.clock
  changes-means = ap length all-means ∙ length-stretch (change_at t.changes) 0 (changes_in t.clock) ∙ omega arith

-- ---- the row count at a stamp

-- of a log given by its records: that of the record before
rows-of : (first : ℕ) (xs : Log) (k : ℕ) (d : Record) → k < length xs → log.rows_at first xs (suc k) ≡ (get_or xs k d).rows
rows-of first [] k d h = absurd (omega arith)
rows-of first (x ∷ xs) zero d h = refl
rows-of first (x ∷ xs) (suc k) d h = rows-of x.rows xs k d (le_of_suc-le-suc h)

pub rows_at-means : (t : Tables) (s : ℕ) → s ≤ stamp_in t.clock
    → log.rows_at (meaning t).first (meaning t).log s ≡ rows_in_log (first_in t.clock) t.log s
unfolding meaning record_at
rows_at-means t zero h = refl
rows_at-means t (suc k) h =
    let f = record_at t.log t.changes in
    rows-of (first_in t.clock) (tab f (stamp_in t.clock)) k (f k) (omega (arith, length-tab f (stamp_in t.clock)))
    ∙ ap (λ (x : Record). x.rows) (get_or-tab f (stamp_in t.clock) k (f k) h)

-- ---- chains

pub chain-means : (t : Tables) (v : ℕ) → v < values_in t.clock → chain (meaning t).chains v ≡ chain_at t.slots t.words t.heads v
unfolding meaning
chain-means t v h = get_or-tab (chain_at t.slots t.words t.heads) (values_in t.clock) v [] h

-- ---- sessions

module _ (t : Tables) (i : ℕ) where
  pub session-means : i < 16 → session (meaning t) i ≡ session_of (session_at t.sessions i)
  unfolding meaning
  session-means h = get_or-tab (λ k. session_of (session_at t.sessions k)) 16 i free h

  pub session-past : 16 ≤ i → session (meaning t) i ≡ free
  unfolding meaning
  session-past h =
      get_or-eq_default (tab (λ k. session_of (session_at t.sessions k)) 16) free
      (omega (arith, length-tab (λ k. session_of (session_at t.sessions k)) 16))

module _ (x : Session) where
  pub open-means : x.live ≡ 1 → session_of x ≡ opened x.start.0 x.rows.0 (entries x)
  unfolding session_of
  open-means e = ap (λ (b : Bool). cond b (opened x.start.0 x.rows.0 (entries x)) free) (eq-eqb x.live 1 e)

  pub free-means : (x.live ≡ 1 → ⊥) → session_of x ≡ free
  unfolding session_of
  free-means n = ap (λ (b : Bool). cond b (opened x.start.0 x.rows.0 (entries x)) free) (ne_eqb x.live 1 n)

  -- not open is not live
  pub is_free-means : is_free (session_of x) ≡ not (eqb x.live 1)
  unfolding session_of
  is_free-means = go (eqb x.live 1)
    where
      go : (b : Bool) → is_free (cond b (opened x.start.0 x.rows.0 (entries x)) free) ≡ not b
      go true = refl
      go false = refl

  pub live-means : is_free (session_of x) ≡ false → x.live ≡ 1
  live-means h = eqb-true x.live 1 (go (eqb x.live 1) (sym is_free-means ∙ h))
    where
      go : (b : Bool) → not b ≡ false → b ≡ true
      go true e = refl
      go false e = absurd (true≢false e)

  -- of an open session its start, its row count and its list
  pub start_of-means : x.live ≡ 1 → start_of (session_of x) ≡ x.start.0
  start_of-means e = ap start_of (open-means e)

  pub rows_of-means : x.live ≡ 1 → rows_of (session_of x) ≡ x.rows.0
  rows_of-means e = ap rows_of (open-means e)

  pub list_of-means : x.live ≡ 1 → list_of (session_of x) ≡ entries x
  list_of-means e = ap list_of (open-means e)

  pub length-entries : length (entries x) ≡ x.count
  length-entries = length-tab (entry_at x) x.count
