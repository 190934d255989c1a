-- Commit and tidy follow the rules.
use mathlib.Core.Path.{◌≡◌, refl, ap, ◌∙◌, sym, ap₂, fun_ext}
use mathlib.Core.List.{[], ◌∷◌, List, ◌++◌}
use mathlib.Core.Logic.{inl, inr, ⊎_elim}
use mathlib.Core.Bool.{Bool, true, false}
use Prim.Native.Nat.{ℕ, ◌+◌, ◌≤◌, ◌<◌, suc, ◌*◌}
use native.Mathlib.Numerals.{add-one}
use native.Mathlib.Omega.{arith}
use borrow.Author.Tests.{leb-false, ltb-false}
use lib.ListN.{length, length-set, set, length-map}
use lib.Seq.{length-sets, sets}
use Rattle.bits.proofs.Cases.{lt-cases}
use Rattle.bits.specs.Vec.{vec}
use Rattle.bits.proofs.VecLaws.{length-vec, bit_at-vec}
use Rattle.bits.specs.Words.{bit_at}
use Rattle.bits.proofs.WordLaws.{bit_at-above}
use Rattle.bits.specs.Tail.{tail_clear}
use Rattle.bits.proofs.TailLaws.{tail-of-bits}
use Rattle.rules.specs.Limits.{max_rows, max_records, max_changes, max_slots}
use Rattle.rules.specs.State.{State, Change, Log, Chain, Version, chain}
use Rattle.rules.specs.Commit.{new_set, commit_changes}
use Rattle.rules.specs.Calls.{commit, tidy}
use Rattle.rules.specs.Refusals.{tests, AllFail}
use Rattle.rules.specs.Step.{commit_record, effect, tidy_record, tidy_version}
use Rattle.rules.specs.Step as rules
use Rattle.rules.specs.Versions.{queried}
use Rattle.rules.specs.Tidy.{moved, tidy_change, tidy_changes}
use Rattle.rules.proofs.Invariant.{Undamaged}
use Rattle.rules.proofs.Fits.{length-made, queried-beyond}
use Rattle.tables.specs.Cells.{Tables, stamp_in, slots_in, changes_in, tables, values_in, first_in, rows_in, slot_stamp, slot_words, head_of}
use Rattle.tables.specs.Cells.{rows_in_log}
use Rattle.tables.specs.Sessions.{freed}
use Rattle.tables.specs.Meaning.{entries, meaning, chain_at}
use Rattle.tables.specs.Stores.{put_slot, put_head}
use Rattle.tables.proofs.Means.{stamp-means, rows-means, changes-means, length-entries, values-means, slots-means, chain-means}
use Rattle.tables.proofs.Stores.{freed-means, session-put, length-slot, length-head}
use Rattle.tables.proofs.Facts.{clock-limits}
use Rattle.tables.proofs.Undamaged.{means-undamaged}
use Rattle.outcomes.specs.Said.{numbers}
use Rattle.outcomes.specs.Stores.{stores, put_changes, clock_cell, slot_cell, head_cell, word_stores}
use Rattle.outcomes.specs.Outcome.{outcome}
use Rattle.outcomes.specs.Calls.{own, commit_rows, commit_stores, commit_of, reseated, tidy_stores, tidy_of}
use Rattle.outcomes.proofs.StoreLaws.{commit-stores, version-stores, log-stores}
use Rattle.follow.specs.Good.{Good}
use Rattle.follow.specs.Follows.{Follows}
use Rattle.follow.proofs.Good.{good-room, good-parts, follows, Open, open-seat, good-freed, value_low}
use Rattle.follow.proofs.NewRecord.{commit-clock, new_log, NextRecord, last_fits, grown-means, tidy-clock, rows_new}
use Rattle.follow.proofs.NewSlot.{no_slot, later-good, NextSlot, slots_same, new-stamp, new-words, new-slot, new-head, new_version}
use Rattle.follow.proofs.NewSlot.{chains-mean}

-- ---- commit

module _ (t : Tables) (n : ℕ) where
  -- the changes that a commit stores, where they end, and the clock then
  abbrev cs : List Change
  cs = commit_changes (meaning t) (own t n).start.0 (entries (own t n))

  abbrev end : ℕ
  end = changes_in t.clock + (own t n).count

  abbrev clock : List ℕ
  clock = set (set (set t.clock 2 (stamp_in t.clock + 1)) 3 (commit_rows t n)) 5 end

  -- the tables then, but for the session
  abbrev kept : Tables
  kept =
      tables clock t.slots t.words t.heads (new_log t.clock t.log 1 (commit_rows t n) end)
      (put_changes t.changes (changes_in t.clock) cs) t.sessions

-- what an accepted commit has: an open session, and room for its record
record Fits (t : Tables) (n : ℕ) : Type 0 where
  open_own : Open t n
  rows_fit : commit_rows t n ≤ 2048
  records-fit : stamp_in t.clock < 512
  changes-fit : end t n ≤ 2048

fits : (t : Tables) (n : ℕ) → Good t → AllFail (tests (meaning t) (commit n)) → Fits t n
unfolding tests max_rows max_records max_changes
fits t n g p =
    let o = open-seat t n g p.0 p.1.0 in
    let q = p.1.1.1.1 in
    record {
      open_own = o;
      rows_fit = ltb-false _ _ (rw (o.means, rows-means t) at q.0);
      records-fit = leb-false _ _ (rw (stamp-means t) at q.1.0);
      changes-fit = ltb-false _ _ (rw (o.means, changes-means t (good-parts t g).records-fit, length-entries (own t n)) at q.1.1.0);
    }

module _ (t : Tables) (g : Good t) (n : ℕ) (f : Fits t n) where
  -- its record and its clock
  next : NextRecord t.clock (clock t n) t.log 1 (commit_rows t n) (slots_in t.clock) (end t n)
  next =
      record {
        later = commit-clock t.clock (commit_rows t n) (end t n) (good-room t g).clock-room;
        records-fit = (good-parts t g).records-fit;
        stamp-low = f.records-fit;
        log-room = (good-room t g).log-room;
        kinds = inl refl;
        rows-rise = omega arith;
        ends-rise = omega arith;
      }

  -- a change for each entry
  size : end t n ≡ changes_in t.clock + length (cs t n)
  unfolding commit_changes
  size =
      let s = (own t n).start.0 in
      let st = meaning t in
      omega (arith, length-made (new_set st.values st.log st.chains s s) st.rows (entries (own t n)), length-entries (own t n))

  -- the cells mean the rules' next state
  commit-state : meaning (reseated (kept t n) n freed) ≡ rules.committing (meaning t) n (own t n).start.0 (entries (own t n))
  unfolding meaning
  commit-state =
      rw (
        next.later.values-kept,
        next.later.first-kept,
        next.later.rows-now,
        next.later.slots-now,
        grown-means next t.changes (cs t n) size f.changes-fit (good-room t g).changes-room,
        ap (λ (st : State). st.sessions) (session-put t n freed f.open_own.place (good-room t g).sessions-room),
        freed-means,
      )

  -- and the tables stay good: the new record fits, as the rules have it
  commit-good : Undamaged (rules.committing (meaning t) n (own t n).start.0 (entries (own t n))) → Good (reseated (kept t n) n freed)
  unfolding meaning
  commit-good u =
      good-freed (kept t n) n
      (later-good t g next (no_slot t g (clock t n) _) (simp length-set) f.rows_fit (cs t n) size f.changes-fit
      (last_fits _ _ _ (meaning t).log (commit_record (meaning t) (own t n).start.0 (entries (own t n))) u.log-fits))

pub commit-follows : (t : Tables) → Good t → (n : ℕ) → Follows t (commit n) (commit_of t n)
unfolding commit_of effect
commit-follows t g n =
    follows t g (commit n) [] (outcome (stores t (commit_stores t n)) [] (numbers ((stamp_in t.clock + 1) ∷ commit_rows t n ∷ [])))
    (λ a. let f = fits t n g a.fail in
    let o = f.open_own in
    record {
      same-state = ap meaning (commit-stores t n) ∙ commit-state t g n f ∙ rw o.means;
      same_answer = rw (o.means, stamp-means t, rows-means t, add-one);
      stays-good = rw (commit-stores t n) (commit-good t g n f (rw o.means at a.undamaged));
    })

-- ---- tidy

module _ (t : Tables) (s v : ℕ) where
  -- the changes that a tidy stores
  abbrev tidied_changes : List Change
  tidied_changes = tidy_changes (meaning t).log s v

  -- where they end
  abbrev tidy_end : ℕ
  tidy_end = changes_in t.clock + length tidied_changes

  -- the clock then
  abbrev tidy_clock : List ℕ
  tidy_clock = set (set (set (set t.clock 2 (stamp_in t.clock + 1)) 3 (rows_in t.clock)) 4 (slots_in t.clock + 1)) 5 tidy_end

  -- the slots with the new one
  abbrev tidy_slots : List ℕ
  tidy_slots = put_slot t.slots (slots_in t.clock) v (stamp_in t.clock + 1) (head_of t.heads v + 1)

  -- the words of the vector queried at s
  abbrev tidy_vector : List ℕ
  tidy_vector = vec (queried (meaning t).log (chain (meaning t).chains v) s v) 32

  -- all words with them at the new slot
  abbrev tidy_words : List ℕ
  tidy_words = sets t.words (32 * slots_in t.clock) tidy_vector

  -- all tables then
  abbrev tidied : Tables
  tidied =
      tables tidy_clock tidy_slots tidy_words (put_head t.heads v (slots_in t.clock))
      (new_log t.clock t.log 2 (rows_in t.clock) tidy_end) (put_changes t.changes (changes_in t.clock) tidied_changes)
      t.sessions

  tidy-stores : stores t (tidy_stores t s v) ≡ tidied
  tidy-stores =
      let k = slots_in t.clock in
      let stamp = stamp_in t.clock + 1 in
      let link = head_of t.heads v + 1 in
      log-stores t (tables t.clock tidy_slots tidy_words (put_head t.heads v k) t.log t.changes t.sessions)
      (word_stores (32 * k) tidy_vector ++ slot_cell k v ∷ slot_cell (96 + k) stamp ∷ slot_cell (192 + k) link ∷ head_cell v k ∷ [])
      (clock_cell 2 stamp ∷ clock_cell 3 (rows_in t.clock) ∷ clock_cell 4 (k + 1) ∷ clock_cell 5 tidy_end ∷ [])
      (version-stores t (32 * k) tidy_vector k v stamp link) (changes_in t.clock) tidied_changes (stamp_in t.clock) 2
      (rows_in t.clock) tidy_end

-- a change for each moved row
tidy-size : (log : Log) (s v : ℕ) → length (tidy_changes log s v) ≡ length (moved log s v)
unfolding tidy_changes
tidy-size log s v = length-map (moved log s v) (tidy_change log s v)

-- what an accepted tidy of a session with start s has: a value, and room for its record and its slot
record TidyFits (t : Tables) (s v : ℕ) : Type 0 where
  value-fits : v < values_in t.clock
  records-fit : stamp_in t.clock < 512
  changes-fit : tidy_end t s v ≤ 2048
  slots-fit : slots_in t.clock < 96

tidy-fits : (t : Tables) (n v : ℕ) → Good t → Open t n → AllFail (tests (meaning t) (tidy n v)) → TidyFits t (own t n).start.0 v
unfolding tests max_records max_changes max_slots
tidy-fits t n v g o p =
    record {
      value-fits = value_low t v p.1.1.0;
      records-fit = leb-false _ _ (rw (stamp-means t) at p.1.1.1.1.1.0);
      changes-fit =
          rw (tidy-size (meaning t).log (own t n).start.0 v)
          (ltb-false _ _ (rw (o.means, changes-means t (good-parts t g).records-fit) at p.1.1.1.1.1.1.0));
      slots-fit = leb-false _ _ (rw (slots-means t) at p.1.1.1.1.1.1.1.0);
    }

-- the vector's words have the rows of the query, since no query has a row at or above the row count
vector-means : (f : ℕ → Bool) (n : ℕ) → n ≤ 2048 → ((r : ℕ) → n ≤ r → f r ≡ false) → bit_at (vec f 32) ≡ f
vector-means f n h z =
    fun_ext (λ r. ⊎_elim (λ (l : r < 2048). bit_at-vec f 32 r l)
    (λ (l : 2048 ≤ r). bit_at-above (vec f 32) r (omega (arith, length-vec f 32)) ∙ sym (z r (omega arith))) (lt-cases r 2048))

module _ (t : Tables) (g : Good t) (s v : ℕ) (f : TidyFits t s v) where
  -- its record and its clock
  tidy-next : NextRecord t.clock (tidy_clock t s v) t.log 2 (rows_in t.clock) (slots_in t.clock + 1) (tidy_end t s v)
  tidy-next =
      record {
        later = tidy-clock t.clock (rows_in t.clock) (slots_in t.clock + 1) (tidy_end t s v) (good-room t g).clock-room;
        records-fit = (good-parts t g).records-fit;
        stamp-low = f.records-fit;
        log-room = (good-room t g).log-room;
        kinds = inr refl;
        rows-rise = omega arith;
        ends-rise = omega arith;
      }

  -- its slot
  slot : NextSlot t.clock t.slots t.words t.heads v (tidy_vector t s v)
  slot =
      record {
        slots-fit = (good-parts t g).slots-fit;
        heads-fit = (good-parts t g).heads-fit;
        value_low = f.value-fits;
        slot-low = f.slots-fit;
        slots-room = (good-room t g).slots-room;
        words-room = (good-room t g).words-room;
        head-room =
            omega (arith, f.value-fits, (clock-limits t.clock (good-parts t g).clock-fits).few-values, (good-room t g).heads-room);
        size = length-vec (queried (meaning t).log (chain (meaning t).chains v) s v) 32;
      }

  -- the query has no row at or above the row count
  query-low : (r : ℕ) → rows_in t.clock ≤ r → queried (meaning t).log (chain (meaning t).chains v) s v r ≡ false
  query-low r h =
      let u = means-undamaged t g.whole in
      queried-beyond (meaning t).values (meaning t).first (meaning t).rows (meaning t).log u.log-fits
      (chain (meaning t).chains v) s v r
      (u.vectors-fit v (rw (values-means t) f.value-fits)) (rw (rows-means t) h)

  -- the rows of its words are those of the query
  vector : bit_at (tidy_vector t s v) ≡ queried (meaning t).log (chain (meaning t).chains v) s v
  vector =
      vector-means (queried (meaning t).log (chain (meaning t).chains v) s v) (rows_in t.clock)
      (clock-limits t.clock (good-parts t g).clock-fits).few-rows query-low

  -- the chain of v: the new version in front
  version : new_version t.clock (tidy_vector t s v) ≡ tidy_version (meaning t) s v
  version =
      ap₂ (λ (k : ℕ) (w : ℕ → Bool). record { stamp = k; vector = w }) (add-one (stamp_in t.clock) ∙ ap suc (sym (stamp-means t))) vector

  front : new_version t.clock (tidy_vector t s v) ∷ chain_at t.slots t.words t.heads v
      ≡ tidy_version (meaning t) s v ∷ chain (meaning t).chains v
  front = ap₂ (λ (x : Version) (xs : Chain). x ∷ xs) version (sym (chain-means t v f.value-fits))

  -- the cells mean the rules' tidy-next state
  tidy-state : meaning (tidied t s v) ≡ rules.tidying (meaning t) s v
  unfolding meaning
  tidy-state =
      rw (
        tidy-next.later.values-kept,
        tidy-next.later.first-kept,
        tidy-next.later.rows-now,
        tidy-next.later.slots-now,
        grown-means tidy-next t.changes (tidied_changes t s v) refl f.changes-fit (good-room t g).changes-room,
        chains-mean slot,
        front,
        add-one (slots_in t.clock),
      )

  -- no bit of the new vector is at or above the row count of its stamp
  new-vector : (i : ℕ) → slots_in t.clock ≤ i → i < slots_in t.clock + 1
      → tail_clear (slot_words (tidy_words t s v) i)
      (rows_in_log (first_in (tidy_clock t s v)) (new_log t.clock t.log 2 (rows_in t.clock) (tidy_end t s v))
      (slot_stamp (tidy_slots t s v) i)) ≡ true
  new-vector i h l =
      let e : i ≡ slots_in t.clock = omega arith in
      rw (e, new-words slot, new-stamp slot, add-one (stamp_in t.clock), rows_new tidy-next)
      (tail-of-bits (tidy_vector t s v) (rows_in t.clock) (λ r m. ap (λ (q : ℕ → Bool). q r) vector ∙ query-low r m))

  -- and the tables stay good: the new record tidy-fits, as the rules have it
  tidy-good : Undamaged (rules.tidying (meaning t) s v) → Good (tidied t s v)
  unfolding meaning
  tidy-good u =
      let c = t.clock in
      let p = good-parts t g in
      later-good t g tidy-next
      record {
        same = slots_same slot;
        used-rise = omega arith;
        used-few = omega (arith, f.slots-fit);
        slots-new = λ i h l. let e : i ≡ slots_in c = omega arith in rw e (new-slot slot);
        heads-new = new-head slot;
        vectors-new = new-vector;
        slots-long = length-slot t.slots (slots_in c) v (stamp_in c + 1) (head_of t.heads v + 1);
        words_long = length-sets t.words (32 * slots_in c) (tidy_vector t s v);
        heads-long = length-head t.heads v (slots_in c);
      }
      (simp length-set) (clock-limits c p.clock-fits).few-rows (tidied_changes t s v) refl f.changes-fit
      (last_fits _ _ _ (meaning t).log (tidy_record (meaning t) s v) u.log-fits)

pub tidy-follows : (t : Tables) → Good t → (n v : ℕ) → Follows t (tidy n v) (tidy_of t n v)
unfolding tidy_of tests effect
tidy-follows t g n v =
    let s = (own t n).start.0 in
    follows t g (tidy n v) []
    (outcome (stores t (tidy_stores t s v)) [] (numbers ((stamp_in t.clock + 1) ∷ length (moved (meaning t).log s v) ∷ [])))
    (λ a. let o = open-seat t n g a.fail.0 a.fail.1.0 in
    let f = tidy-fits t n v g o a.fail in
    record {
      same-state = ap meaning (tidy-stores t s v) ∙ tidy-state t g s v f ∙ rw o.means;
      same_answer = rw (o.means, stamp-means t, add-one);
      stays-good = rw (tidy-stores t s v) (tidy-good t g s v f (rw o.means at a.undamaged));
    })
