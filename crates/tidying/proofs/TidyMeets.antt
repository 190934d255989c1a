-- In undamaged tables the tests of a tidy are the rules' own, and the cells that it leaves are those of its stores.
use mathlib.Core.Path.{◌≡◌, refl, sym, ap, ap₂, ◌∙◌, fun_ext}
use mathlib.Core.Bool.{Bool, true, ◌||◌, or_assoc}
use mathlib.Core.List.{List, [], ◌∷◌, ◌++◌, map, append_assoc}
use Prim.Native.Nat.{ℕ, zero, suc, ◌+◌, ◌-◌, ◌*◌, ◌≤◌, ◌<◌}
use native.Mathlib.Omega.{arith}
use lib.Dec.{eqb, ltb, eqb-suc-zero}
use lib.ListN.{length, take, drop, length-map}
use lib.Seq.{sets, sets-eq}
use Rattle.bits.specs.Bit.{bit, clear_bit}
use Rattle.bits.specs.Part.{put_part}
use Rattle.bits.specs.Rows.{count_of, rows_of}
use Rattle.bits.proofs.RowLaws.{length-rows}
use Rattle.bits.specs.Vec.{vec}
use Rattle.bits.proofs.VecLaws.{length-vec, bit_at-vec, vec-ext}
use Rattle.bits.specs.Words.{bit_at}
use Rattle.rules.specs.Limits.{max_records, max_changes, max_slots}
use Rattle.rules.specs.State.{Change, Chain, chain}
use Rattle.rules.specs.State as rules
use Rattle.rules.specs.Log.{above, changes_of, some_change}
use Rattle.rules.specs.Versions.{queried, newest}
use Rattle.rules.specs.Tidy.{moves, moved, stale, tidy_change, tidy_changes}
use Rattle.rules.specs.Refusals.{Test, first_of, is_empty, nothing_to_move, is_stale, records_full, changes_full, slots_full}
use Rattle.rules.proofs.Shapes.{some-change, some_or}
use Rattle.tables.specs.Cells.{Tables, tables, values_in, stamp_in, rows_in, slots_in, changes_in, slot_stamp, head_of, end_at, change_row}
use Rattle.tables.specs.Cells.{change_set}
use Rattle.tables.specs.Stores.{put_slot, put_head}
use Rattle.tables.specs.Stretch.{stretch}
use Rattle.tables.specs.Meaning.{change_at, meaning}
use Rattle.tables.specs.Damage.{sound}
use Rattle.tables.proofs.Stretch.{stretch-none, stretch-front}
use Rattle.tables.proofs.Facts.{parts, clock-limits, last_end, end-high, change-now}
use Rattle.tables.proofs.Means.{chain-means, above-means, changes-means, stamp-means, slots-means}
use Rattle.tables.proofs.Chains.{newest-stamp}
use Rattle.history.specs.Flips.{flipped_in}
use Rattle.history.specs.Query.{queried_at}
use Rattle.history.proofs.Meets.{flip_set-meets, moves-meets, moved-meets, queried-meets}
use Rattle.outcomes.specs.Said.{numbers}
use Rattle.outcomes.specs.Outcome.{outcome}
use Rattle.outcomes.specs.Stores.{clock_cell, slot_cell, head_cell, stores, word_stores, put_changes}
use Rattle.outcomes.specs.Calls.{tidy_stores}
use Rattle.tidying.specs.Tidy.{hinders, touched_in, stale_at, tidy_tests, less_at, moved_in, tidy_clock, tidy_log, tidied_cells}
use Rattle.outcomes.proofs.StoreLaws.{version-stores, log-stores}

-- ---- small things

-- the same test at each change of a stretch
some_same : (p q : Change → Bool) (f : ℕ → Change) (n a b : ℕ) → b ≡ a + n → ((j : ℕ) → a ≤ j → j < b → p (f j) ≡ q (f j))
    → some_change p (stretch f a b) ≡ some_change q (stretch f a b)
some_same p q f zero a b e h = rw (stretch-none f a b (omega arith))
some_same p q f (suc n) a b e h =
    rw (stretch-front f a b (omega arith), h a (omega arith) (omega arith))
    (ap (λ (y : Bool). q (f a) || y) (some_same p q f n (suc a) b (omega arith) (λ j l m. h j (omega arith) m)))

-- two tests in one pass
some-both : (p q : Change → Bool) (cs : List Change) → some_change (λ c. p c || q c) cs ≡ some_change p cs || some_change q cs
some-both p q cs = rw (some-change, some_or p q cs, ← some-change p cs, ← some-change q cs)

empty-is : (l : List ℕ) → eqb (length l) 0 ≡ is_empty l
empty-is [] = refl
empty-is (x ∷ l) = eqb-suc-zero (length l)

-- stores of words, said as a part
sets-part : (words ws : List ℕ) (a : ℕ) → a + length ws ≤ length words → sets words a ws ≡ put_part a ws words
unfolding put_part
sets-part words ws a h = sets-eq ws words a h ∙ append_assoc (take a words) ws (drop (a + length ws) words)

-- ---- the tests

-- 13, 14, 16, 17 and 18 of a session
abbrev pub rest_tests : Tables → ℕ → rules.Session → List Test
rest_tests t v x =
    nothing_to_move (meaning t) x v ∷ is_stale (meaning t) x v ∷ records_full (meaning t)
    ∷ changes_full (meaning t) (length (moved (meaning t).log (rules.start_of x) v)) ∷ slots_full (meaning t) ∷ []

module _ (t : Tables) (good : sound t ≡ true) (s : ℕ) (low : s ≤ stamp_in t.clock) (v : ℕ) where
  abbrev rows : List ℕ
  rows = moved_in t.log t.changes s v

  pub rows-moved : rows_of rows ≡ moved (meaning t).log s v
  unfolding moved_in
  rows-moved = moved-meets t good s low v

  pub count-moved : count_of rows ≡ length (moved (meaning t).log s v)
  unfolding rows_of count_of
  count-moved = sym (length-rows (bit_at rows) (length rows * 64)) ∙ ap length rows-moved

  -- a change after s names a moved row exactly if its row is one
  row-moves : (j : ℕ) → j < changes_in t.clock → bit_at rows (change_row t.changes j) ≡ moves (meaning t).log s v
      (change_row t.changes j)
  unfolding moved_in
  row-moves j l =
      let p = parts t good in
      let few = (clock-limits t.clock p.clock-fits).few-rows in
      let row = (change-now t.clock t.log t.changes p.records-fit p.changes-fit j l).row_low in
      bit_at-vec (flipped_in t.changes 0 (end_at t.log s) v) 32 (change_row t.changes j) (omega arith)
      ∙ moves-meets t good s low v (change_row t.changes j)

  touched-meets : touched_in t.changes (end_at t.log s) (end_at t.log (stamp_in t.clock)) rows v
      ≡ some_change (λ c. moves (meaning t).log s v c.row) (changes_of (above (meaning t).log s)) || some_change (λ c. bit c.flips v)
      (changes_of (above (meaning t).log s))
  unfolding touched_in
  touched-meets =
      let p = parts t good in
      let f = change_at t.changes in
      let a = end_at t.log s in
      let b = changes_in t.clock in
      let q : Change → Bool = λ c. moves (meaning t).log s v c.row || bit c.flips v in
      let e : b ≡ a + (b - a) = omega (arith, end-high t.clock t.log p.records-fit s low) in
      ap (λ (k : ℕ). some_change (hinders rows v) (stretch f a k)) (last_end t.clock t.log p.records-fit)
      ∙ some_same (hinders rows v) q f (b - a) a b e (λ j l m. ap (λ (x : Bool). x || bit (change_set t.changes j) v) (row-moves j m))
      ∙ ap (some_change q) (sym (above-means t p.records-fit s low))
      ∙ some-both (λ c. moves (meaning t).log s v c.row) (λ c. bit c.flips v) (changes_of (above (meaning t).log s))

  module _ (below : v < values_in t.clock) where
    stale-meets : stale_at t.slots t.heads t.log t.changes (stamp_in t.clock) s v rows ≡ stale (meaning t).log
        (chain (meaning t).chains v) s v
    unfolding stale_at
    stale-meets =
        let stamp : slot_stamp t.slots (head_of t.heads v) ≡ (newest (chain (meaning t).chains v)).stamp =
        sym (ap (λ (c : Chain). (newest c).stamp) (chain-means t v below) ∙ newest-stamp t.slots t.words t.heads v) in
        rw (stamp, touched-meets) (sym (or_assoc (ltb s (newest (chain (meaning t).chains v)).stamp) _ _))

    pub tests-meet : (x : rules.Session) → rules.start_of x ≡ s
        → first_of (tidy_tests t.clock t.slots t.heads t.log t.changes s v rows) ≡ first_of (rest_tests t v x)
    unfolding tidy_tests max_records max_changes max_slots
    tests-meet x e =
        rw (count-moved, stale-meets, empty-is, e, stamp-means t, changes-means t (parts t good).records-fit, slots-means t)

    -- ---- the stores

    changes-meet : map (less_at t.changes (end_at t.log s) v) (rows_of rows) ≡ tidy_changes (meaning t).log s v
    unfolding tidy_changes
    changes-meet =
        ap₂ (λ (d : ℕ → Change) (rs : List ℕ). map d rs)
        (fun_ext (λ r. ap (λ (m : ℕ). record { row = r; flips = clear_bit m v }) (flip_set-meets t good s low r))) rows-moved

    length-tidied : length (tidy_changes (meaning t).log s v) ≡ length (moved (meaning t).log s v)
    unfolding tidy_changes
    length-tidied = length-map (moved (meaning t).log s v) (tidy_change (meaning t).log s v)

    -- the tables that the stores leave, table by table
    stored : stores t (tidy_stores t s v)
        ≡ (let k = slots_in t.clock in
        let n = length (tidy_changes (meaning t).log s v) in
        tables (tidy_clock t.clock n) (put_slot t.slots k v (stamp_in t.clock + 1) (head_of t.heads v + 1))
        (sets t.words (32 * k) (vec (queried (meaning t).log (chain (meaning t).chains v) s v) 32)) (put_head t.heads v k)
        (tidy_log t.clock t.log n)
        (put_changes t.changes (changes_in t.clock) (tidy_changes (meaning t).log s v)) t.sessions)
    stored =
        let k = slots_in t.clock in
        let stamp = stamp_in t.clock + 1 in
        let link = head_of t.heads v + 1 in
        let ws = vec (queried (meaning t).log (chain (meaning t).chains v) s v) 32 in
        let cs = tidy_changes (meaning t).log s v in
        let end = changes_in t.clock + length cs in
        log-stores t (tables t.clock (put_slot t.slots k v stamp link) (sets t.words (32 * k) ws) (put_head t.heads v k) t.log
        t.changes t.sessions)
        (word_stores (32 * k) ws ++ slot_cell k v ∷ slot_cell (96 + k) stamp ∷ slot_cell (192 + k) link ∷ head_cell v k ∷ [])
        (clock_cell 2 stamp ∷ clock_cell 3 (rows_in t.clock) ∷ clock_cell 4 (k + 1) ∷ clock_cell 5 end ∷ [])
        (version-stores t (32 * k) ws k v stamp link) (changes_in t.clock) cs (stamp_in t.clock) 2 (rows_in t.clock) end

    pub cells_meet : 3072 ≤ length t.words → slots_in t.clock < 96
        → tidied_cells t s v rows ≡ outcome (stores t (tidy_stores t s v)) []
        (numbers ((stamp_in t.clock + 1) ∷ length (moved (meaning t).log s v) ∷ []))
    unfolding tidied_cells
    cells_meet room slot =
        let k = slots_in t.clock in
        let f = queried (meaning t).log (chain (meaning t).chains v) s v in
        let old = queried_at t.slots t.words t.heads t.log t.changes s v in
        let w : put_part (32 * k) (vec old 32) t.words ≡ sets t.words (32 * k) (vec f 32) =
        ap (λ (ws : List ℕ). put_part (32 * k) ws t.words) (vec-ext old f 32 (λ r l. queried-meets t good s low v below r))
        ∙ sym (sets-part t.words (vec f 32) (32 * k) (omega (arith, length-vec f 32))) in
        rw (w, changes-meet, stored, count-moved, length-tidied)
