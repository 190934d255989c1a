-- What the readers see after the writers: the stored cells, and the others as they were.
use mathlib.Core.Path.{◌≡◌, refl, ap, ap₂, ◌∙◌}
use mathlib.Core.Bool.{true}
use mathlib.Core.List.{List, [], ◌∷◌, ◌++◌}
use mathlib.Core.Logic.{◌≢◌}
use Prim.Native.Nat.{ℕ, zero, suc, ◌+◌, ◌≤◌, ◌<◌}
use native.Mathlib.Omega.{arith}
use lib.ListN.{length, get_or, set, length-set}
use lib.Seq.{get_or-set_same, get_or-set_other}
use Rattle.bits.specs.Tab.{tab}
use Rattle.bits.proofs.TabLaws.{tab-ext, tab-more}
use Rattle.rules.specs.State.{Change, Record, free, opened}
use Rattle.rules.specs.Step.{seated}
use Rattle.tables.specs.declared.session.Session.{Session}
use Rattle.tables.specs.declared.counts.Stamp.{Stamp}
use Rattle.tables.specs.declared.counts.Row.{Row}
use Rattle.tables.specs.Cells.{Tables, tables, stamp_in, changes_in, slot_value, slot_stamp, slot_link, head_of, record_stamp}
use Rattle.tables.specs.Cells.{record_kind, record_rows, record_end, rows_in_log, end_at}
use Rattle.tables.specs.Sessions.{freed, begun, session_at}
use Rattle.tables.specs.Stretch.{stretch}
use Rattle.tables.specs.Stores.{put_slot, put_head, put_record, put_change}
use Rattle.tables.specs.Meaning.{change_at, kind_of, record_at, session_of, meaning}
use Rattle.tables.specs.Damage.{records_fit}
use Rattle.tables.proofs.Stretch.{stretch-more, stretch-same, tab-set}
use Rattle.tables.proofs.Facts.{last_end, end-high}

-- ---- slots

module _ (slots : List ℕ) (i value stamp link : ℕ) where
  pub length-slot : length (put_slot slots i value stamp link) ≡ length slots
  unfolding put_slot
  length-slot = simp length-set

  module _ (l : i < 96) (room : 288 ≤ length slots) where
    pub put-value : slot_value (put_slot slots i value stamp link) i ≡ value
    unfolding put_slot
    put-value =
        get_or-set_other (set (set slots i value) (96 + i) stamp) (192 + i) i link 0 (λ e. omega arith)
        ∙ get_or-set_other (set slots i value) (96 + i) i stamp 0 (λ e. omega arith) ∙ get_or-set_same slots i value 0 (omega arith)

    pub put-stamp : slot_stamp (put_slot slots i value stamp link) i ≡ stamp
    unfolding put_slot
    put-stamp =
        get_or-set_other (set (set slots i value) (96 + i) stamp) (192 + i) (96 + i) link 0 (λ e. omega arith)
        ∙ get_or-set_same (set slots i value) (96 + i) stamp 0 (simp length-set (omega arith))

    pub put-link : slot_link (put_slot slots i value stamp link) i ≡ link
    unfolding put_slot
    put-link = get_or-set_same (set (set slots i value) (96 + i) stamp) (192 + i) link 0 (simp length-set (omega arith))

  -- a cell that is none of the three
  slot-other : (k : ℕ) → k ≢ i → k ≢ 96 + i → k ≢ 192 + i → get_or (put_slot slots i value stamp link) k 0 ≡ get_or slots k 0
  unfolding put_slot
  slot-other k p q r =
      get_or-set_other (set (set slots i value) (96 + i) stamp) (192 + i) k link 0 r
      ∙ get_or-set_other (set slots i value) (96 + i) k stamp 0 q ∙ get_or-set_other slots i k value 0 p

  module _ (l : i < 96) (j : ℕ) (m : j < 96) (d : j ≢ i) where
    pub kept-value : slot_value (put_slot slots i value stamp link) j ≡ slot_value slots j
    kept-value = slot-other j d (λ e. omega arith) (λ e. omega arith)

    pub kept-stamp : slot_stamp (put_slot slots i value stamp link) j ≡ slot_stamp slots j
    kept-stamp = slot-other (96 + j) (λ e. omega arith) (λ e. d (omega arith)) (λ e. omega arith)

    pub kept-link : slot_link (put_slot slots i value stamp link) j ≡ slot_link slots j
    kept-link = slot-other (192 + j) (λ e. omega arith) (λ e. omega arith) (λ e. d (omega arith))

-- ---- heads

module _ (heads : List ℕ) (v i : ℕ) where
  pub length-head : length (put_head heads v i) ≡ length heads
  unfolding put_head
  length-head = length-set heads v i

  pub put-head : v < length heads → head_of (put_head heads v i) v ≡ i
  unfolding put_head
  put-head h = get_or-set_same heads v i 0 h

  pub kept-head : (w : ℕ) → w ≢ v → head_of (put_head heads v i) w ≡ head_of heads w
  unfolding put_head
  kept-head w d = get_or-set_other heads v w i 0 d

-- ---- records

module _ (log : List ℕ) (k kind rows end : ℕ) where
  pub length-record : length (put_record log k kind rows end) ≡ length log
  unfolding put_record
  length-record = simp length-set

  module _ (l : k < 512) (room : 2048 ≤ length log) where
    pub put-bears : record_stamp (put_record log k kind rows end) k ≡ k + 1
    unfolding put_record
    put-bears =
        get_or-set_other (set (set (set log k (k + 1)) (512 + k) kind) (1024 + k) rows) (1536 + k) k end 0 (λ e. omega arith)
        ∙ get_or-set_other (set (set log k (k + 1)) (512 + k) kind) (1024 + k) k rows 0 (λ e. omega arith)
        ∙ get_or-set_other (set log k (k + 1)) (512 + k) k kind 0 (λ e. omega arith) ∙ get_or-set_same log k (k + 1) 0 (omega arith)

    pub put-kind : record_kind (put_record log k kind rows end) k ≡ kind
    unfolding put_record
    put-kind =
        get_or-set_other (set (set (set log k (k + 1)) (512 + k) kind) (1024 + k) rows) (1536 + k) (512 + k) end 0 (λ e. omega arith)
        ∙ get_or-set_other (set (set log k (k + 1)) (512 + k) kind) (1024 + k) (512 + k) rows 0 (λ e. omega arith)
        ∙ get_or-set_same (set log k (k + 1)) (512 + k) kind 0 (simp length-set (omega arith))

    pub put-rows : record_rows (put_record log k kind rows end) k ≡ rows
    unfolding put_record
    put-rows =
        get_or-set_other (set (set (set log k (k + 1)) (512 + k) kind) (1024 + k) rows) (1536 + k) (1024 + k) end 0 (λ e. omega arith)
        ∙ get_or-set_same (set (set log k (k + 1)) (512 + k) kind) (1024 + k) rows 0 (simp length-set (omega arith))

    pub put-end : record_end (put_record log k kind rows end) k ≡ end
    unfolding put_record
    put-end = get_or-set_same (set (set (set log k (k + 1)) (512 + k) kind) (1024 + k) rows) (1536 + k) end 0 (simp length-set (omega arith))

  -- a cell that is none of the four
  record-other : (j : ℕ) → j ≢ k → j ≢ 512 + k → j ≢ 1024 + k → j ≢ 1536 + k → get_or (put_record log k kind rows end) j 0 ≡ get_or log j 0
  unfolding put_record
  record-other j p q r s =
      get_or-set_other (set (set (set log k (k + 1)) (512 + k) kind) (1024 + k) rows) (1536 + k) j end 0 s
      ∙ get_or-set_other (set (set log k (k + 1)) (512 + k) kind) (1024 + k) j rows 0 r
      ∙ get_or-set_other (set log k (k + 1)) (512 + k) j kind 0 q ∙ get_or-set_other log k j (k + 1) 0 p

  module _ (l : k < 512) where
    pub kept-bears : (j : ℕ) → j < k → record_stamp (put_record log k kind rows end) j ≡ record_stamp log j
    kept-bears j m = record-other j (λ e. omega arith) (λ e. omega arith) (λ e. omega arith) (λ e. omega arith)

    pub kept-kind : (j : ℕ) → j < k → record_kind (put_record log k kind rows end) j ≡ record_kind log j
    kept-kind j m = record-other (512 + j) (λ e. omega arith) (λ e. omega arith) (λ e. omega arith) (λ e. omega arith)

    pub kept-rows : (j : ℕ) → j < k → record_rows (put_record log k kind rows end) j ≡ record_rows log j
    kept-rows j m = record-other (1024 + j) (λ e. omega arith) (λ e. omega arith) (λ e. omega arith) (λ e. omega arith)

    pub kept-end : (j : ℕ) → j < k → record_end (put_record log k kind rows end) j ≡ record_end log j
    kept-end j m = record-other (1536 + j) (λ e. omega arith) (λ e. omega arith) (λ e. omega arith) (λ e. omega arith)

    -- at the stamps up to k
    pub end_kept : (s : ℕ) → s ≤ k → end_at (put_record log k kind rows end) s ≡ end_at log s
    end_kept zero h = refl
    end_kept (suc s) h = kept-end s h

    pub rows-kept : (first s : ℕ) → s ≤ k → rows_in_log first (put_record log k kind rows end) s ≡ rows_in_log first log s
    rows-kept first zero h = refl
    rows-kept first (suc s) h = kept-rows s h

-- ---- changes

module _ (changes : List ℕ) (p row flips : ℕ) where
  pub length-change : length (put_change changes p row flips) ≡ length changes
  unfolding put_change
  length-change = simp length-set

  pub put-change : p < 2048 → 4096 ≤ length changes → change_at (put_change changes p row flips) p ≡ record { row = row; flips = flips }
  unfolding put_change
  put-change l room =
      rw (
        get_or-set_other (set changes p row) (2048 + p) p flips 0 (λ e. omega arith),
        get_or-set_same changes p row 0 (omega arith),
        get_or-set_same (set changes p row) (2048 + p) flips 0 (simp length-set (omega arith)),
      )

  pub kept-change : p < 2048 → (q : ℕ) → q < 2048 → q ≢ p → change_at (put_change changes p row flips) q ≡ change_at changes q
  unfolding put_change
  kept-change l q m d =
      rw (
        get_or-set_other (set changes p row) (2048 + p) q flips 0 (λ e. omega arith),
        get_or-set_other changes p q row 0 d,
        get_or-set_other (set changes p row) (2048 + p) (2048 + q) flips 0 (λ e. d (omega arith)),
        get_or-set_other changes p (2048 + q) row 0 (λ e. omega arith),
      )

  -- the changes before p, and with p at their end
  pub stretch-kept : p < 2048 → (a b : ℕ) → b ≤ p → stretch (change_at (put_change changes p row flips)) a b ≡ stretch (change_at changes) a b
  stretch-kept l a b h =
      stretch-same (change_at (put_change changes p row flips)) (change_at changes) a b
      (λ j m n. kept-change l j (omega arith) (λ e. omega arith))

  pub stretch-put : p < 2048 → 4096 ≤ length changes → (a : ℕ) → a ≤ p
      → stretch (change_at (put_change changes p row flips)) a (p + 1)
      ≡ stretch (change_at changes) a p ++ (record { row = row; flips = flips } ∷ [])
  stretch-put l room a h =
      stretch-more (change_at (put_change changes p row flips)) a p h
      ∙ ap₂ (λ (xs : List Change) (x : Change). xs ++ (x ∷ [])) (stretch-kept l a p (omega arith)) (put-change l room)

-- ---- one record more: the log that the tables mean grows by it, and keeps the others

module _ (c log changes : List ℕ) (e : records_fit c log ≡ true) (l : stamp_in c < 512) (changes' : List ℕ) (kind rows end : ℕ)
    (same : (p : ℕ) → p < changes_in c → change_at changes' p ≡ change_at changes p) where
  old-record : (k : ℕ) → k < stamp_in c → record_at (put_record log (stamp_in c) kind rows end) changes' k ≡ record_at log changes k
  unfolding record_at
  old-record k h =
      rw (
        kept-kind log (stamp_in c) kind rows end l k h,
        kept-rows log (stamp_in c) kind rows end l k h,
        kept-end log (stamp_in c) kind rows end l k h,
        end_kept log (stamp_in c) kind rows end l k (omega arith),
        stretch-same (change_at changes') (change_at changes) (end_at log k) (end_at log (suc k))
            (λ j m n. same j (omega (arith, end-high c log e (suc k) h))),
      )

  new-record : 2048 ≤ length log
      → record_at (put_record log (stamp_in c) kind rows end) changes' (stamp_in c)
      ≡ record { kind = kind_of kind; rows = rows; changes = stretch (change_at changes') (changes_in c) end }
  unfolding record_at
  new-record room =
      rw (
        put-kind log (stamp_in c) kind rows end l room,
        put-rows log (stamp_in c) kind rows end l room,
        put-end log (stamp_in c) kind rows end l room,
        end_kept log (stamp_in c) kind rows end l (stamp_in c) (omega arith),
        last_end c log e,
      )

  pub log-grown : 2048 ≤ length log
      → tab (record_at (put_record log (stamp_in c) kind rows end) changes') (stamp_in c + 1)
      ≡ tab (record_at log changes)
      (stamp_in c) ++ (record { kind = kind_of kind; rows = rows; changes = stretch (change_at changes') (changes_in c) end } ∷ [])
  log-grown room =
      tab-more (record_at (put_record log (stamp_in c) kind rows end) changes') (stamp_in c)
      ∙ ap₂ (λ (xs : List Record) (x : Record). xs ++ (x ∷ []))
      (tab-ext (record_at (put_record log (stamp_in c) kind rows end) changes') (record_at log changes) (stamp_in c) old-record)
      (new-record room)

-- ---- sessions

pub freed-means : session_of freed ≡ free
unfolding session_of freed
freed-means = refl

pub begun-means : (s : Stamp) (n : Row) → session_of (begun s n) ≡ opened s.0 n.0 []
unfolding session_of begun tab
begun-means s n = refl

-- one session stored
pub session-put : (t : Tables) (i : ℕ) (x : Session) → i < 16 → 16 ≤ length t.sessions
    → meaning (tables t.clock t.slots t.words t.heads t.log t.changes (set t.sessions i x))
    ≡ seated (meaning t) i (session_of x)
unfolding meaning
session-put t i x h room =
    rw (
      tab-set free (λ k. session_of (session_at t.sessions k)) (λ k. session_of (session_at (set t.sessions i x) k)) 16 i h
          (λ k m d. ap session_of (get_or-set_other t.sessions i k x freed d)),
      get_or-set_same t.sessions i x freed (omega arith),
    )
