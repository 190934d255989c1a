-- One record more in the log cells, with its changes, and the clock one stamp later, as commit and tidy leave them: what was
-- there stays, the log that the cells mean grows by that record, and the sentences of "Damaged tables" on the clock, records,
-- changes and sessions hold again.
use mathlib.Core.Path.{◌≡◌, sym, ap₂, ◌∙◌, refl, ap}
use mathlib.Core.List.{List, [], ◌∷◌, ◌++◌}
use mathlib.Core.Bool.{true}
use mathlib.Core.Logic.{◌⊎◌, inl, inr, ⊎_elim}
use Prim.Native.Nat.{ℕ, suc, ◌+◌, ◌≤◌, ◌<◌}
use native.Mathlib.Numerals.{add-one}
use native.Mathlib.Omega.{arith}
use native.Mathlib.Nat.{eq-or-lt_of_le, le_of_suc-le-suc}
use lib.ListN.{length, set}
use Rattle.bits.specs.Tab.{tab}
use Rattle.rules.specs.State.{Change, Record, Log}
use Rattle.rules.specs.Limits.{max_values, max_rows, max_slots, max_records, max_changes}
use Rattle.rules.specs.Log.{grown}
use Rattle.rules.proofs.Invariant.{ChangesFit, LogFits}
use Rattle.tables.specs.Stores.{put_change, put_record}
use Rattle.tables.specs.Stretch.{stretch}
use Rattle.tables.specs.Meaning.{change_at, kind_of, record_at}
use Rattle.tables.specs.Cells.{values_in, first_in, stamp_in, rows_in, slots_in, changes_in, rows_in_log, end_at}
use Rattle.tables.specs.Damage.{clock_fits, records_fit, changes_fit, session_fits, sessions_fit}
use Rattle.tables.specs.declared.session.Session.{Session}
use Rattle.tables.specs.Sessions.{session_at}
use Rattle.tables.proofs.Stretch.{stretch-none, stretch-front}
use Rattle.tables.proofs.Stores.{length-change, put-change, put-bears, put-kind, put-rows, put-end, kept-bears, kept-kind, rows-kept}
use Rattle.tables.proofs.Stores.{end_kept, log-grown}
use Rattle.tables.proofs.Facts.{clock-facts, clock-made, RecordFacts, ChangeFacts, each-record, records-made, last_end, last-rows}
use Rattle.tables.proofs.Facts.{end-high, each-change, changes-made}
use Rattle.tables.proofs.Sessions.{ZeroFacts, OpenFacts, session-facts, session-made, each-session, sessions-made}
use Rattle.tables.proofs.Fits.{changes-fit-at}
use Rattle.outcomes.specs.Stores.{put_changes}
use Rattle.outcomes.proofs.StoreLaws.{changes-before}

-- the changes put
pub changes-put : (l : List ℕ) (p : ℕ) (cs : List Change) → p + length cs ≤ 2048 → 4096 ≤ length l
    → stretch (change_at (put_changes l p cs)) p (p + length cs) ≡ cs
unfolding put_changes
changes-put l p [] h room = stretch-none (change_at l) p (p + 0) (omega arith)
changes-put l p (c ∷ cs) h room =
    let l' = put_change l p c.row c.flips in
    let f = change_at (put_changes l' (p + 1) cs) in
    let e : p + suc (length cs) ≡ p + 1 + length cs = omega arith in
    stretch-front f p (p + suc (length cs)) (omega arith)
    ∙ ap₂ (λ (x : Change) (xs : List Change). x ∷ xs)
    (changes-before l' (p + 1) cs (omega arith) p (omega arith) ∙ put-change l p c.row c.flips (omega arith) room)
    (ap₂ (stretch f) (sym (add-one p)) e ∙ changes-put l' (p + 1) cs (omega arith) (omega (arith, length-change l p c.row c.flips)))

-- C and the first row count stay, the stamp is the next one, and the other three are these
pub record Later (c c' : List ℕ) (rows slots end : ℕ) : Type 0 where
  pub values-kept : values_in c' ≡ values_in c
  pub first-kept : first_in c' ≡ first_in c
  pub stamp-next : stamp_in c' ≡ stamp_in c + 1
  pub rows-now : rows_in c' ≡ rows
  pub slots-now : slots_in c' ≡ slots
  pub changes-now : changes_in c' ≡ end

-- a clock with room is its six cells and more
six : (P : List ℕ → Type 0) → ((a b c d e f : ℕ) (l : List ℕ) → P (a ∷ b ∷ c ∷ d ∷ e ∷ f ∷ l)) → (l : List ℕ) → 6 ≤ length l → P l
six P h [] r = absurd (omega arith)
six P h (a ∷ []) r = absurd (omega arith)
six P h (a ∷ b ∷ []) r = absurd (omega arith)
six P h (a ∷ b ∷ c ∷ []) r = absurd (omega arith)
six P h (a ∷ b ∷ c ∷ d ∷ []) r = absurd (omega arith)
six P h (a ∷ b ∷ c ∷ d ∷ e ∷ []) r = absurd (omega arith)
six P h (a ∷ b ∷ c ∷ d ∷ e ∷ f ∷ l) r = h a b c d e f l

pub commit-clock : (c : List ℕ) (rows end : ℕ) → 6 ≤ length c
    → Later c (set (set (set c 2 (stamp_in c + 1)) 3 rows) 5 end) rows (slots_in c) end
commit-clock c rows end =
    six (λ (l : List ℕ). Later l (set (set (set l 2 (stamp_in l + 1)) 3 rows) 5 end) rows (slots_in l) end)
    (λ a b c d e f l.
    record { values-kept = refl; first-kept = refl; stamp-next = refl; rows-now = refl; slots-now = refl; changes-now = refl }) c

pub tidy-clock : (c : List ℕ) (rows slots end : ℕ) → 6 ≤ length c
    → Later c (set (set (set (set c 2 (stamp_in c + 1)) 3 rows) 4 slots) 5 end) rows slots end
tidy-clock c rows slots end =
    six (λ (l : List ℕ). Later l (set (set (set (set l 2 (stamp_in l + 1)) 3 rows) 4 slots) 5 end) rows slots end)
    (λ a b c d e f l.
    record { values-kept = refl; first-kept = refl; stamp-next = refl; rows-now = refl; slots-now = refl; changes-now = refl }) c

-- its sentence of "Damaged tables"
pub clock-later : {c c' : List ℕ} {rows slots end : ℕ} → Later c c' rows slots end → clock_fits c ≡ true → rows ≤ 2048 → stamp_in c < 512
    → slots_in c ≤ slots → slots ≤ 96 → end ≤ 2048 → clock_fits c' ≡ true
unfolding max_values max_rows max_records max_slots max_changes
clock-later {c} {c'} k p a b d e f = let o = clock-facts c p in clock-made c' (omega arith)

-- the log cells with a record after those of the clock c
abbrev pub new_log : List ℕ → List ℕ → ℕ → ℕ → ℕ → List ℕ
new_log c log kind rows end = put_record log (stamp_in c) kind rows end

-- what the new record and the clock after it have to bring
pub record NextRecord (c c' log : List ℕ) (kind rows slots end : ℕ) : Type 0 where
  pub later : Later c c' rows slots end
  pub records-fit : records_fit c log ≡ true
  pub stamp-low : stamp_in c < 512
  pub log-room : 2048 ≤ length log
  pub kinds : (kind ≡ 1) ⊎ (kind ≡ 2)
  pub rows-rise : rows_in c ≤ rows
  pub ends-rise : changes_in c ≤ end

module _ {c c' log : List ℕ} {kind rows slots end : ℕ} (k : NextRecord c c' log kind rows slots end) where
  -- row counts and ends at the old stamps, and at the new one
  pub rows-old : (s : ℕ) → s ≤ stamp_in c → rows_in_log (first_in c') (new_log c log kind rows end) s ≡ rows_in_log (first_in c) log s
  rows-old s h = rw k.later.first-kept (rows-kept log (stamp_in c) kind rows end k.stamp-low (first_in c) s h)

  pub rows_new : rows_in_log (first_in c') (new_log c log kind rows end) (suc (stamp_in c)) ≡ rows
  rows_new = put-rows log (stamp_in c) kind rows end k.stamp-low k.log-room

  ends-old : (s : ℕ) → s ≤ stamp_in c → end_at (new_log c log kind rows end) s ≡ end_at log s
  ends-old s h = end_kept log (stamp_in c) kind rows end k.stamp-low s h

  ends-new : end_at (new_log c log kind rows end) (suc (stamp_in c)) ≡ end
  ends-new = put-end log (stamp_in c) kind rows end k.stamp-low k.log-room

  stamp-is : stamp_in c' ≡ suc (stamp_in c)
  stamp-is = k.later.stamp-next ∙ add-one (stamp_in c)

  -- a record is an old one or the new one
  old-or-new : (j : ℕ) → j < stamp_in c' → (j ≡ stamp_in c) ⊎ (j < stamp_in c)
  old-or-new j h = eq-or-lt_of_le (le_of_suc-le-suc (rw stamp-is at h))

  -- ---- records

  record-old : (j : ℕ) → j < stamp_in c → RecordFacts (first_in c') (new_log c log kind rows end) j
  record-old j h =
      let f = each-record c log k.records-fit j h in
      record {
        bears = kept-bears log (stamp_in c) kind rows end k.stamp-low j h ∙ f.bears;
        kinds = rw (kept-kind log (stamp_in c) kind rows end k.stamp-low j h) f.kinds;
        rows-rise = rw (rows-old j (omega arith), rows-old (suc j) h) f.rows-rise;
        ends-rise = rw (ends-old j (omega arith), ends-old (suc j) h) f.ends-rise;
      }

  record-new : RecordFacts (first_in c') (new_log c log kind rows end) (stamp_in c)
  record-new =
      record {
        bears = put-bears log (stamp_in c) kind rows end k.stamp-low k.log-room;
        kinds = rw (put-kind log (stamp_in c) kind rows end k.stamp-low k.log-room) k.kinds;
        rows-rise = omega (arith, rows-old (stamp_in c) (omega arith), rows_new, last-rows c log k.records-fit, k.rows-rise);
        ends-rise = omega (arith, ends-old (stamp_in c) (omega arith), ends-new, last_end c log k.records-fit, k.ends-rise);
      }

  pub records-later : records_fit c' (new_log c log kind rows end) ≡ true
  records-later =
      records-made c' (new_log c log kind rows end)
      (λ j l. ⊎_elim (λ (e : j ≡ stamp_in c). rw e record-new) (λ (h : j < stamp_in c). record-old j h) (old-or-new j l))
      (ap (end_at (new_log c log kind rows end)) stamp-is ∙ ends-new ∙ sym k.later.changes-now)
      (ap (rows_in_log (first_in c') (new_log c log kind rows end)) stamp-is ∙ rows_new ∙ sym k.later.rows-now)

  -- ---- changes: the old ones as they were, and those of the new record

  change-old : (changes changes' : List ℕ) → changes_fit c log changes ≡ true
      → ((p : ℕ) → p < changes_in c → change_at changes' p ≡ change_at changes p)
      → (j p : ℕ) → j < stamp_in c → end_at (new_log c log kind rows end) j ≤ p → p < end_at (new_log c log kind rows end) (suc j)
      → ChangeFacts changes' (values_in c') (rows_in_log (first_in c') (new_log c log kind rows end) (suc j)) p
  change-old changes changes' e same j p h a b =
      let b' : p < end_at log (suc j) = omega (arith, ends-old (suc j) h) in
      let f = each-change c log changes e j p h (omega (arith, ends-old j (omega arith))) b' in
      let q = same p (omega (arith, end-high c log k.records-fit (suc j) h)) in
      record {
        row_low = rw (ap (λ (x : Change). x.row) q, rows-old (suc j) h) f.row_low;
        set-low = rw (ap (λ (x : Change). x.flips) q, k.later.values-kept) f.set-low;
      }

  change-new : (changes' : List ℕ) → ChangesFit (values_in c) rows (stretch (change_at changes') (changes_in c) end)
      → (p : ℕ) → end_at (new_log c log kind rows end) (stamp_in c) ≤ p → p < end_at (new_log c log kind rows end) (suc (stamp_in c))
      → ChangeFacts changes' (values_in c') (rows_in_log (first_in c') (new_log c log kind rows end) (suc (stamp_in c))) p
  change-new changes' f p a b =
      rw (k.later.values-kept, rows_new)
      (changes-fit-at changes' (values_in c) rows (changes_in c) end f p
      (omega (arith, ends-old (stamp_in c) (omega arith), last_end c log k.records-fit)) (omega (arith, ends-new)))

  pub changes-later : (changes changes' : List ℕ) → changes_fit c log changes ≡ true
      → ((p : ℕ) → p < changes_in c → change_at changes' p ≡ change_at changes p)
      → ChangesFit (values_in c) rows (stretch (change_at changes') (changes_in c) end)
      → changes_fit c' (new_log c log kind rows end) changes' ≡ true
  changes-later changes changes' e same f =
      changes-made c' (new_log c log kind rows end) changes' (λ j p l. go j p (old-or-new j l))
    where
      go : (j p : ℕ) → (j ≡ stamp_in c) ⊎ (j < stamp_in c) → end_at (new_log c log kind rows end) j ≤ p
          → p < end_at (new_log c log kind rows end) (suc j)
          → ChangeFacts changes' (values_in c') (rows_in_log (first_in c') (new_log c log kind rows end) (suc j)) p
      go j p (inl q) = rw q (change-new changes' f p)
      go j p (inr h) = change-old changes changes' e same j p h

  -- ---- sessions: the row count at a start stays

  pub session-later : (x : Session) → session_fits (values_in c) (first_in c) (stamp_in c) log x ≡ true
      → session_fits (values_in c') (first_in c') (stamp_in c') (new_log c log kind rows end) x ≡ true
  session-later x e =
      session-made (values_in c') (first_in c') (stamp_in c') (new_log c log kind rows end) x
      (⊎_elim (λ (z : ZeroFacts x). inl z) (λ (f : OpenFacts (values_in c) (first_in c) (stamp_in c) log x). inr (still f))
      (session-facts (values_in c) (first_in c) (stamp_in c) log x e))
    where
      still : OpenFacts (values_in c) (first_in c) (stamp_in c) log x
          → OpenFacts (values_in c') (first_in c') (stamp_in c') (new_log c log kind rows end) x
      still f =
          record {
            live-one = f.live-one;
            start-old = omega (arith, f.start-old, stamp-is);
            rows_then = f.rows_then ∙ sym (rows-old x.start.0 f.start-old);
            count_low = f.count_low;
            entry-cases = rw k.later.values-kept f.entry-cases;
            listed-once = f.listed-once;
          }

  pub sessions-later : (sessions : List Session) → sessions_fit c log sessions ≡ true
      → sessions_fit c' (new_log c log kind rows end) sessions ≡ true
  sessions-later sessions e =
      sessions-made c' (new_log c log kind rows end) sessions
      (λ i l. session-later (session_at sessions i) (each-session c log sessions e i l))

-- the last record of a log that fits
pub last_fits : (C n m : ℕ) (log : Log) (x : Record) → LogFits C n (grown log x) m → ChangesFit C x.rows x.changes
unfolding grown
last_fits C n m [] x h = h.1
last_fits C n m (y ∷ log) x h = last_fits C y.rows m log x h.2

module _ {c c' log : List ℕ} {kind rows slots end : ℕ} (k : NextRecord c c' log kind rows slots end) (changes : List ℕ) (cs : List Change)
    (size : end ≡ changes_in c + length cs) (few : end ≤ 2048) (room : 4096 ≤ length changes) where
  old-changes : (p : ℕ) → p < changes_in c → change_at (put_changes changes (changes_in c) cs) p ≡ change_at changes p
  old-changes p l = changes-before changes (changes_in c) cs (omega arith) p l

  new-changes : stretch (change_at (put_changes changes (changes_in c) cs)) (changes_in c) end ≡ cs
  new-changes =
      ap (stretch (change_at (put_changes changes (changes_in c) cs)) (changes_in c)) size
      ∙ changes-put changes (changes_in c) cs (omega arith) room

  pub grown-means : tab (record_at (new_log c log kind rows end) (put_changes changes (changes_in c) cs)) (stamp_in c')
      ≡ grown (tab (record_at log changes) (stamp_in c)) (record { kind = kind_of kind; rows = rows; changes = cs })
  unfolding grown
  grown-means =
      ap (tab (record_at (new_log c log kind rows end) (put_changes changes (changes_in c) cs))) k.later.stamp-next
      ∙ log-grown c log changes k.records-fit k.stamp-low (put_changes changes (changes_in c) cs) kind rows end old-changes
      k.log-room
      ∙ ap (λ (xs : List Change). tab (record_at log changes) (stamp_in c) ++ (record { kind = kind_of kind; rows = rows; changes = xs } ∷ []))
      new-changes

  pub grown-changes : changes_fit c log changes ≡ true → ChangesFit (values_in c) rows cs
      → changes_fit c' (new_log c log kind rows end) (put_changes changes (changes_in c) cs) ≡ true
  grown-changes e f =
      changes-later k changes (put_changes changes (changes_in c) cs) e old-changes (rw new-changes f)
