-- Query, span and read follow the rules: the tables stay, and the words that the picker returns, or the cells of the list, show exactly
-- the rules' rows.
use mathlib.Core.Path.{◌≡◌, sym, ap, ◌∙◌, refl}
use mathlib.Core.Bool.{Bool, false, cond}
use mathlib.Core.Option.{none, some}
use mathlib.Core.List.{List, [], ◌∷◌}
use mathlib.Core.Logic.{◌⊎◌, inl, inr, ⊎_elim}
use Prim.Native.Nat.{ℕ, zero-le, ◌+◌, ◌*◌, ◌≤◌, ◌<◌}
use native.Mathlib.Omega.{arith}
use borrow.Author.Tests.{eq-eqb, ne_eqb, lt-ltb, le-leb, le-ltb, ltb-false}
use lib.Dec.{ltb}
use lib.ListN.{length, take, drop}
use lib.Seq.{take_at}
use Rattle.bits.specs.Bit.{xorb}
use Rattle.bits.proofs.Cases.{eq-cases}
use Rattle.bits.specs.Rows.{rows_below, rows_of}
use Rattle.bits.proofs.RowLaws.{rows_ext, count_none}
use Rattle.bits.specs.Tab.{over}
use Rattle.bits.proofs.TabLaws.{length_over}
use Rattle.bits.specs.Vec.{vec}
use Rattle.bits.proofs.VecLaws.{length-vec}
use Rattle.bits.proofs.VecOps.{rows_of-vec}
use Rattle.bits.specs.Words.{bit_at}
use Rattle.rules.specs.Limits.{max_rows, vector_words}
use Rattle.rules.specs.State.{session, start_of, chain}
use Rattle.rules.specs.Versions.{version_at, flipped, queried, queried_rows}
use Rattle.rules.specs.Calls.{query, span, listed, found, read}
use Rattle.rules.specs.Refusals.{tests, read_in}
use Rattle.rules.specs.Step.{querying, effect}
use Rattle.rules.proofs.Small.{xorb-false}
use Rattle.tables.specs.Cells.{Tables, values_in, slot_words}
use Rattle.tables.specs.Meaning.{meaning}
use Rattle.tables.proofs.Facts.{clock-limits}
use Rattle.tables.proofs.Slots.{length-slot_words}
use Rattle.tables.proofs.Tests.{and_both}
use Rattle.history.specs.Version.{slot_seen}
use Rattle.history.proofs.Meets.{seen-used, vector-meets}
use Rattle.outcomes.specs.Said.{value}
use Rattle.outcomes.specs.Query.{rows_seen, flips_seen, asked, query_of, picked_from}
use Rattle.outcomes.specs.Span.{rows_of_span, listed_span, span_of}
use Rattle.outcomes.specs.Outcome.{outcome}
use Rattle.outcomes.specs.Calls.{read_of}
use Rattle.follow.specs.Good.{Good}
use Rattle.follow.specs.Heard.{heard_picked}
use Rattle.follow.specs.Follows.{Follows}
use Rattle.follow.proofs.Good.{good-room, good-parts, follows, value_low}

-- ---- the words picked

-- a slot's own
slot-picked : (ws scratch : List ℕ) (i : ℕ) → i < 96 → 3072 ≤ length ws → picked_from ws scratch (some i) ≡ slot_words ws i
unfolding picked_from slot_words
slot-picked ws scratch i l room =
    ap (λ (b : Bool). cond b (take 32 (drop (32 * i) ws)) [])
    (and_both _ _ (lt-ltb i 96 l) (le-leb (32 * i + 32) (length ws) (omega arith)))

-- the scratch's first 32, filled
scratch-picked : (ws scratch : List ℕ) (f : ℕ → Bool) → 32 ≤ length scratch → picked_from ws (over (vec f 32) scratch) none ≡ vec f 32
unfolding picked_from
scratch-picked ws scratch f room =
    let n : length (vec f 32) ≡ 32 = length-vec f 32 in
    let l : length (over (vec f 32) scratch) ≡ length scratch = length_over (vec f 32) scratch (omega arith) in
    ap (λ (b : Bool). cond b (take 32 (over (vec f 32) scratch)) []) (le-leb 32 (length (over (vec f 32) scratch)) (omega arith))
    ∙ take_at (vec f 32) (drop (length (vec f 32)) scratch) 32 n

module _ (t : Tables) (g : Good t) (s v : ℕ) (below : v < values_in t.clock) (scratch : List ℕ) where
  abbrev slot : ℕ
  slot = slot_seen t.slots t.heads s v

  slot-low : slot < 96
  slot-low = omega (arith, seen-used t g.whole s v below, (clock-limits t.clock (good-parts t g).clock-fits).few-slots)

  -- no row is flipped: the version's own rows
  own-rows : flips_seen t s v ≡ 0
      → rows_of (picked_from t.words scratch (some slot)) ≡ queried_rows (meaning t).log (chain (meaning t).chains v) s v
  unfolding rows_of queried max_rows
  own-rows z =
      let old = version_at (chain (meaning t).chains v) s in
      ap rows_of (slot-picked t.words scratch slot slot-low (good-room t g).words-room)
      ∙ ap (λ (n : ℕ). rows_below (bit_at (slot_words t.words slot)) (n * 64))
      (length-slot_words t.words slot slot-low (good-room t g).words-room)
      ∙ rows_ext (bit_at (slot_words t.words slot)) (rows_seen t s v) 2048
      (λ r l. vector-meets t g.whole s v r below ∙ sym (xorb-false (old.vector r))
      ∙ ap (xorb (old.vector r)) (sym ((count_none (flipped (meaning t).log (chain (meaning t).chains v) s v) 2048).0 z r l)))

  -- some are: the scratch's
  turned_rows : 32 ≤ length scratch
      → rows_of (picked_from t.words (over (vec (rows_seen t s v) 32) scratch) none)
      ≡ queried_rows (meaning t).log (chain (meaning t).chains v) s v
  unfolding max_rows
  turned_rows room = ap rows_of (scratch-picked t.words scratch (rows_seen t s v) room) ∙ rows_of-vec (rows_seen t s v) 32

  -- what is asked is answered
  answered : (threshold : ℕ) → 32 ≤ length scratch
      → heard_picked (asked t scratch s v threshold) ≡ querying (meaning t) s v threshold
  unfolding asked
  answered threshold room = go (eq-cases (flips_seen t s v) 0)
    where
      go : (flips_seen t s v ≡ 0) ⊎ (flips_seen t s v ≡ 0 → ⊥)
          → heard_picked (asked t scratch s v threshold) ≡ querying (meaning t) s v threshold
      go (inl z) =
          rw (eq-eqb (flips_seen t s v) 0 z) (ap (listed 0 false) (own-rows z) ∙ rw (z, le-ltb threshold 0 zero-le))
      go (inr d) = rw (ne_eqb (flips_seen t s v) 0 d) (ap (listed (flips_seen t s v) (ltb threshold (flips_seen t s v))) (turned_rows room))

  same : (threshold : ℕ) → (asked t scratch s v threshold).after ≡ t
  unfolding asked
  same threshold =
      ⊎_elim (λ (z : flips_seen t s v ≡ 0). rw (eq-eqb (flips_seen t s v) 0 z))
      (λ (d : flips_seen t s v ≡ 0 → ⊥). rw (ne_eqb (flips_seen t s v) 0 d)) (eq-cases (flips_seen t s v) 0)

-- ---- the call

-- 10 fails: the scratch has room
room_for : (n : ℕ) → ltb n vector_words ≡ false → 32 ≤ n
unfolding vector_words
room_for n e = ltb-false n 32 e

pub query-follows : (t : Tables) → Good t → (scratch : List ℕ) (n v threshold : ℕ)
    → Follows t (query n v threshold (length scratch)) (query_of t scratch n v threshold)
unfolding query_of tests effect
query-follows t g scratch n v threshold =
    let s = start_of (session (meaning t) n) in
    follows t g (query n v threshold (length scratch)) (scratch ∷ []) (asked t scratch s v threshold)
    (λ a. let below = value_low t v a.fail.1.1.0 in
    let after = same t g s v below scratch threshold in
    record {
      same-state = ap meaning after;
      same_answer = answered t g s v below scratch threshold (room_for (length scratch) a.fail.1.1.1.0);
      stays-good = rw after g;
    })

-- the list's first cells are the rows
pub span-follows : (t : Tables) → Good t → (list : List ℕ) (n a b : ℕ) → Follows t (span n a b (length list)) (span_of t list n a b)
unfolding span_of listed_span effect
span-follows t g list n a b =
    let s = start_of (session (meaning t) n) in
    let rows = rows_of_span t s a b in
    follows t g (span n a b (length list)) (list ∷ []) (listed_span t list s a b)
    (λ x. record { same-state = refl; same_answer = ap found (take_at rows (drop (length rows) list) (length rows) refl); stays-good = g })

pub read-follows : (t : Tables) → Good t → (n r : ℕ) → Follows t (read n r) (read_of t n r)
unfolding read_of effect
read-follows t g n r =
    follows t g (read n r) [] (outcome t [] (value (read_in (meaning t) (session (meaning t) n) r)))
    (λ a. record { same-state = refl; same_answer = refl; stays-good = g })
