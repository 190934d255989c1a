-- Create follows the rules, from any tables with room, damaged or not: what the cells of tables just made of a column are, that
-- they mean the rules' first state, and that they are good.
use mathlib.Core.Path.{◌≡◌, refl, ap, ap₂, ◌∙◌, fun_ext, sym}
use mathlib.Core.Bool.{Bool, true, false, cond, ◌&&◌, true≢false}
use mathlib.Core.Option.{Option, none, some}
use mathlib.Core.List.{[], ◌∷◌, List, map}
use mathlib.Core.Logic.{inl, ◌⊎◌, ⊎_elim}
use Prim.Native.Nat.{ℕ, ◌+◌, ◌≤◌, ◌<◌, ◌*◌, ◌/◌, ◌%◌}
use native.Mathlib.Numerals.{add-one}
use native.Mathlib.Omega.{arith}
use borrow.Author.Tests.{ne_eqb, lt-ltb, le-ltb}
use lib.ListN.{length, replicate, get_or-eq_default, get_or, take, drop, length-map, length-replicate, length-drop, get_or-append}
use lib.ListN.{get_or-map}
use lib.Dec.{eqb, ltb}
use lib.Seq.{take-append-le, drop-append-le}
use Rattle.bits.specs.Tab.{tab, over}
use Rattle.bits.proofs.TabLaws.{tab-ext, length_over, length-tab, get_or-tab}
use Rattle.bits.specs.Tail.{tail_clear}
use Rattle.bits.proofs.TailLaws.{tail-of-bits}
use Rattle.bits.specs.Words.{bit_at}
use Rattle.bits.proofs.WordLaws.{bit_at-above}
use Rattle.bits.proofs.Cases.{eq-cases, lt-cases}
use Rattle.bits.specs.Part.{part}
use Rattle.bits.specs.Vec.{vec}
use Rattle.bits.proofs.VecLaws.{length-vec, bit_at-vec}
use Rattle.bits.specs.Vectors.{vector_at}
use Rattle.bits.proofs.VectorLaws.{vector_at-vec}
use Rattle.bits.specs.Column.{holds_at, column_bit, value_of, value_none, value-some}
use Rattle.rules.specs.Limits.{max_values, max_rows, max_slots, max_sessions}
use Rattle.rules.specs.State.{Version, free}
use Rattle.rules.specs.Calls.{Column, cell, holds, create}
use Rattle.rules.specs.Step.{first_chain, created, effect, step}
use Rattle.rules.specs.Refusals.{bad_column, tests}
use Rattle.rules.proofs.Agrees.{good-column}
use Rattle.tables.specs.Cells.{Tables, values_in, first_in, stamp_in, rows_in, slots_in, changes_in, slot_value, slot_stamp, slot_link, slot_words}
use Rattle.tables.specs.Cells.{head_of, rows_in_log}
use Rattle.tables.specs.Sessions.{freed, session_at}
use Rattle.tables.specs.Meaning.{version_at, chain_from, chain_at, session_of, meaning}
use Rattle.tables.specs.Room.{roomy}
use Rattle.tables.proofs.Facts.{Room, room-made, Parts, whole, clock-made, records-made, changes-made, room-facts}
use Rattle.tables.proofs.Slots.{slots-made, heads-made, vectors-made}
use Rattle.tables.proofs.Sessions.{sessions-made, session-made, freed-zero}
use Rattle.tables.proofs.Chains.{chain-end}
use Rattle.tables.proofs.Stores.{freed-means}
use Rattle.lent.proofs.PlaceTheorems.{length-freed-all, freed-all-at}
use Rattle.outcomes.specs.Said.{numbers}
use Rattle.outcomes.specs.Outcome.{Outcome, outcome, refusal_of_create, unless}
use Rattle.outcomes.specs.Calls.{below, created_tables, column_of, create_of}
use Rattle.follow.specs.Good.{Good}
use Rattle.follow.specs.Follows.{Follows}
use Rattle.follow.specs.Heard.{heard}
use Rattle.follow.proofs.Good.{freed-wide}

-- "slots 0 to C-1 with stamp 0, one per value, no links; stamp 0; all sessions free"
pub record Fresh (t : Tables) (C : ℕ) (col : Column) : Type 0 where
  pub values-are : values_in t.clock ≡ C
  pub first-are : first_in t.clock ≡ length col
  pub stamp-is : stamp_in t.clock ≡ 0
  pub rows_are : rows_in t.clock ≡ length col
  pub slots-are : slots_in t.clock ≡ C
  pub changes-are : changes_in t.clock ≡ 0
  pub value-is : (v : ℕ) → v < C → slot_value t.slots v ≡ v
  pub stamp-zero : (v : ℕ) → v < C → slot_stamp t.slots v ≡ 0
  pub link-zero : (v : ℕ) → v < C → slot_link t.slots v ≡ 0
  pub head-is : (v : ℕ) → v < C → head_of t.heads v ≡ v
  pub vector-is : (v : ℕ) → v < C → (r : ℕ) → bit_at (slot_words t.words v) r ≡ holds (cell col r) v
  pub sessions-free : (i : ℕ) → i < 16 → session_at t.sessions i ≡ freed

-- a version under its parts
abbrev version : ℕ → (ℕ → Bool) → Version
version s rows = record { stamp = s; vector = rows }

all-free : tab (λ i. free) 16 ≡ replicate max_sessions free
unfolding tab max_sessions
all-free = refl

-- a row past the column is absent
pub past-absent : (col : Column) (v r : ℕ) → length col ≤ r → holds (cell col r) v ≡ false
past-absent col v r h = ap (λ (o : Option ℕ). holds o v) (get_or-eq_default col none h)

slots-enough : max_values ≤ max_slots
unfolding max_values max_slots
slots-enough = omega arith

module _ (t : Tables) (C : ℕ) (col : Column) (f : Fresh t C col) where
  -- the versions of a value: one
  chain-fresh : (v : ℕ) → v < C → chain_at t.slots t.words t.heads v ≡ first_chain col v
  unfolding chain_at version_at
  chain-fresh v l =
      ap (λ (h : ℕ). chain_from t.slots t.words (h + 1) h) (f.head-is v l)
      ∙ ap (λ (n : ℕ). chain_from t.slots t.words n v) (add-one v)
      ∙ chain-end t.slots t.words v v (f.link-zero v l)
      ∙ ap₂ (λ (s : ℕ) (b : ℕ → Bool). version s b ∷ []) (f.stamp-zero v l) (fun_ext (f.vector-is v l))

  sessions-fresh : tab (λ i. session_of (session_at t.sessions i)) 16 ≡ replicate max_sessions free
  sessions-fresh =
      tab-ext (λ i. session_of (session_at t.sessions i)) (λ i. free) 16 (λ i l. ap session_of (f.sessions-free i l) ∙ freed-means)
      ∙ all-free

  pub fresh-means : meaning t ≡ created C col
  unfolding meaning created tab
  fresh-means =
      rw (
        f.values-are,
        f.first-are,
        f.rows_are,
        f.stamp-is,
        f.slots-are,
        tab-ext (chain_at t.slots t.words t.heads) (first_chain col) C chain-fresh,
        sessions-fresh,
      )

  fresh-parts : 1 ≤ C → C ≤ max_values → length col ≤ max_rows → Parts t
  fresh-parts low high rows =
      let c = t.clock in
      record {
        clock-fits = clock-made c (omega (arith, f, slots-enough));
        records-fit =
            records-made c t.log (λ k l. absurd (omega (arith, f.stamp-is))) (rw (f.stamp-is, f.changes-are))
            (rw (f.stamp-is, f.first-are, f.rows_are));
        changes-fit = changes-made c t.log t.changes (λ k p l. absurd (omega (arith, f.stamp-is)));
        slots-fit =
            slots-made c t.slots
            (λ i h l. let k : i < C = omega (arith, f.slots-are) in
            record { own_value = f.value-is i k; no-stamp = f.stamp-zero i k; no-link = f.link-zero i k })
            (λ i h l. absurd (omega (arith, f.values-are, f.slots-are)));
        heads-fit =
            heads-made c t.slots t.heads
            (λ v l. let k : v < C = omega (arith, f.values-are) in
            record {
              head-low = omega (arith, f.head-is v k, f.slots-are);
              head-value = ap (slot_value t.slots) (f.head-is v k) ∙ f.value-is v k;
            });
        vectors-fit = vectors-made c t.log t.slots t.words (λ i l. clear i (omega (arith, f.slots-are)));
        sessions-fit =
            sessions-made c t.log t.sessions
            (λ i l. rw (f.sessions-free i l) (session-made (values_in c) (first_in c) (stamp_in c) t.log freed (inl freed-zero)));
      }
    where
      clear : (i : ℕ) → i < C → tail_clear (slot_words t.words i) (rows_in_log (first_in t.clock) t.log (slot_stamp t.slots i)) ≡ true
      clear i l =
          rw (f.stamp-zero i l)
          (tail-of-bits (slot_words t.words i) (first_in t.clock)
          (λ r h. f.vector-is i l r ∙ past-absent col i r (omega (arith, f.first-are))))

  pub fresh-good : Room t → 1 ≤ C → C ≤ max_values → length col ≤ max_rows → Good t
  fresh-good room low high rows = record {
    room = room-made t room;
    whole = whole t (fresh-parts low high rows);
    wide = λ i l. rw (f.sessions-free i l) freed-wide;
  }

-- ---- the cells that create leaves

-- a cell among those stored
over-at : (g : ℕ → ℕ) (n i : ℕ) (d : List ℕ) → i < n → get_or (over (tab g n) d) i 0 ≡ g i
over-at g n i d h =
    get_or-append (tab g n) (drop (length (tab g n)) d) 0 i (omega (arith, length-tab g n)) ∙ get_or-tab g n i 0 h

below-yes : (c i : ℕ) → i < c → below c i ≡ i
below-yes c i h = ap (λ (b : Bool). cond b i 0) (lt-ltb i c h)

below-no : (c i : ℕ) → c ≤ i → below c i ≡ 0
below-no c i h = ap (λ (b : Bool). cond b i 0) (le-ltb i c h)

-- a part of what is stored
over-part : (l d : List ℕ) (a n : ℕ) → a + n ≤ length l → part a n (over l d) ≡ part a n l
unfolding part
over-part l d a n h =
    let q : n ≤ length (drop a l) = omega (arith, length-drop a l) in
    ap (take n) (drop-append-le a l (drop (length l) d) (omega arith)) ∙ take-append-le n (drop a l) (drop (length l) d) q

-- the rows that hold a value
holds-means : (col : List ℕ) (v r : ℕ) → v < 255 → holds_at col v r ≡ holds (cell (column_of col) r) v
holds-means col v r h =
    one (get_or col r 255) (eq-cases (get_or col r 255) 255)
    ∙ ap (λ (o : Option ℕ). holds o v) (sym (ap (get_or (map value_of col) r) (sym value_none) ∙ get_or-map value_of col r 255))
  where
    one : (b : ℕ) → (b ≡ 255) ⊎ (b ≡ 255 → ⊥) → eqb b v ≡ holds (value_of b) v
    one b s =
        ⊎_elim (λ (e : b ≡ 255). ne_eqb b v (λ q. omega arith)
        ∙ sym (ap (λ (x : ℕ). holds (value_of x) v) e ∙ ap (λ (o : Option ℕ). holds o v) value_none))
        (λ (d : b ≡ 255 → ⊥). sym (ap (λ (o : Option ℕ). holds o v) (value-some b d))) s

-- the vector of a value, of n words
module _ (col d : List ℕ) (n v : ℕ) (l : v < 32) (few : length col ≤ 2048) (h : 32 * v + 32 ≤ n) where
  words-fresh : slot_words (over (vec (column_bit col) n) d) v ≡ vec (λ r. column_bit col (2048 * v + r)) 32
  unfolding slot_words vector_at part
  words-fresh =
      over-part (vec (column_bit col) n) d (32 * v) 32 (omega (arith, length-vec (column_bit col) n)) ∙ vector_at-vec (column_bit col) n v h

  vector-fresh : (r : ℕ) → bit_at (slot_words (over (vec (column_bit col) n) d) v) r ≡ holds (cell (column_of col) r) v
  unfolding column_bit
  vector-fresh r =
      ap (λ (w : List ℕ). bit_at w r) words-fresh
      ∙ ⊎_elim
      (λ (m : r < 2048).
      let q : (2048 * v + r) / 2048 ≡ v = omega arith in
      let k : (2048 * v + r) % 2048 ≡ r = omega arith in
      bit_at-vec (λ r. column_bit col (2048 * v + r)) 32 r m ∙ ap₂ (λ (x y : ℕ). ltb x 32 && holds_at col x y) q k
      ∙ ap (λ (b : Bool). b && holds_at col v r) (lt-ltb v 32 l) ∙ holds-means col v r (omega arith))
      (λ (m : 2048 ≤ r).
      bit_at-above (vec (λ r. column_bit col (2048 * v + r)) 32) r (omega (arith, length-vec (λ r. column_bit col (2048 * v + r)) 32))
      ∙ sym (past-absent (column_of col) v r (omega (arith, length-map col value_of)))) (lt-cases r 2048)

module _ (t : Tables) (room : Room t) (c : ℕ) (col : List ℕ) where
  abbrev after : Tables
  after = created_tables t c col

  created-fresh : c ≤ 32 → length col ≤ 2048 → Fresh after c (column_of col)
  created-fresh high few = record {
    values-are = refl;
    first-are = sym (length-map col value_of);
    stamp-is = refl;
    rows_are = sym (length-map col value_of);
    slots-are = refl;
    changes-are = refl;
    value-is = λ v l. over-at (below c) 288 v t.slots (omega arith) ∙ below-yes c v l;
    stamp-zero = λ v l. over-at (below c) 288 (96 + v) t.slots (omega arith) ∙ below-no c (96 + v) (omega arith);
    link-zero = λ v l. over-at (below c) 288 (192 + v) t.slots (omega arith) ∙ below-no c (192 + v) (omega arith);
    head-is = λ v l. over-at (below c) 32 v t.heads (omega arith) ∙ below-yes c v l;
    vector-is = λ v l. vector-fresh col t.words 3072 v (omega arith) few (omega arith);
    sessions-free = λ i l. freed-all-at t.sessions i l;
  }

  stays : (l d : List ℕ) (n : ℕ) → length l ≡ n → n ≤ length d → n ≤ length (over l d)
  stays l d n e h = omega (arith, length_over l d (omega arith))

  created-room : Room after
  created-room = record {
    clock-room = stays (c ∷ length col ∷ 0 ∷ length col ∷ c ∷ 0 ∷ []) t.clock 6 refl room.clock-room;
    slots-room = stays (tab (below c) 288) t.slots 288 (length-tab (below c) 288) room.slots-room;
    words-room = stays (vec (column_bit col) 3072) t.words 3072 (length-vec (column_bit col) 3072) room.words-room;
    heads-room = stays (tab (below c) 32) t.heads 32 (length-tab (below c) 32) room.heads-room;
    log-room = stays (replicate 2048 0) t.log 2048 (length-replicate {A = ℕ} 2048 0) room.log-room;
    changes-room = stays (replicate 4096 0) t.changes 4096 (length-replicate {A = ℕ} 4096 0) room.changes-room;
    sessions-room = omega (arith, length-freed-all t.sessions, room.sessions-room);
  }

  -- 3 fails: the tables are made of the column
  made : bad_column c (column_of col) ≡ false → (meaning after ≡ created c (column_of col)) × Good after
  unfolding max_values max_rows
  made e =
      let g = good-column c (column_of col) e in
      let f = created-fresh g.values-fit (omega (arith, g.column_fits, length-map col value_of)) in (
        fresh-means after c (column_of col) f,
        fresh-good after c (column_of col) f created-room g.some-value g.values-fit g.column_fits,
      )

-- ---- the call

-- on tables with room, damaged or not: the rules' next state and answer; where the column is accepted, the first state of the
-- rules and good tables, and where it is not, the tables as they were
pub record Creates (t : Tables) (c : ℕ) (col : List ℕ) (o : Outcome) : Type 0 where
  pub same-state : meaning o.after ≡ (step (meaning t) (create c (column_of col))).0
  pub same_answer : heard (create c (column_of col)) o ≡ (step (meaning t) (create c (column_of col))).1
  pub accepted : bad_column c (column_of col) ≡ false → (meaning o.after ≡ created c (column_of col)) × Good o.after
  pub refused : bad_column c (column_of col) ≡ true → o.after ≡ t

pub create-creates : (t : Tables) → roomy t ≡ true → (c : ℕ) (col : List ℕ) → Creates t c col (create_of t c col)
unfolding create_of refusal_of_create unless step tests effect
create-creates t r c col = rw r (go (bad_column c (column_of col)) refl)
  where
    o : Outcome
    o = outcome (created_tables t c col) [] (numbers (length col ∷ []))

    go : (b : Bool) → bad_column c (column_of col) ≡ b → Creates t c col (unless (cond b (some 3) none) t [] o)
    go false e =
        let m = made t (room-facts t r) c col e in
        record {
          same-state = m.0 ∙ rw e;
          same_answer = rw (e, length-map col value_of);
          accepted = λ q. m;
          refused = λ q. absurd (true≢false (sym q ∙ e));
        }
    go true e = record { same-state = rw e; same_answer = rw e; accepted = λ q. absurd (true≢false (sym e ∙ q)); refused = λ q. refl }

pub create-follows : (t : Tables) → Good t → (c : ℕ) (col : List ℕ) → Follows t (create c (column_of col)) (create_of t c col)
create-follows t g c col = go (bad_column c (column_of col)) refl
  where
    m : Creates t c col (create_of t c col)
    m = create-creates t g.room c col

    go : (b : Bool) → bad_column c (column_of col) ≡ b → Follows t (create c (column_of col)) (create_of t c col)
    go false e = record { same-state = m.same-state; same_answer = m.same_answer; stays-good = (m.accepted e).1 }
    go true e = record { same-state = m.same-state; same_answer = m.same_answer; stays-good = rw (m.refused e) g }
