-- Create: the column's test, the cells, the vectors and the clock of a new index, and what the call comes to.
use Rattle.std.specs.Prelude.{Ok, Err}
use mathlib.Core.Path.{◌≡◌, refl, sym, ap, ap₂, ◌∙◌}
use mathlib.Core.Bool.{Bool, true, false, not, cond, ◌&&◌, ◌||◌}
use mathlib.Core.Option.{none, some}
use mathlib.Core.List.{List, [], ◌∷◌, ◌++◌}
use mathlib.Core.Logic.{◌⊎◌, inl, inr}
use Prim.Native.Nat.{ℕ, ◌+◌, ◌≤◌, ◌<◌}
use native.Mathlib.Omega.{arith}
use borrow.Author.Tests.{eq-eqb, ne_eqb, le-leb, lt-leb, lt-ltb, le-ltb, ltb-false}
use lib.Dec.{eqb, leb, ltb}
use lib.ListN.{length, get_or, take, drop, set, replicate, length-map, length-replicate}
use lib.Seq.{sets-eq, length-take-le, take_all}
use Rattle.bits.proofs.Cases.{lt-cases, eq-cases}
use Rattle.bits.specs.Tab.{tab, over}
use Rattle.bits.proofs.TabLaws.{Filled, filled_more}
use Rattle.bits.specs.Vec.{vec}
use Rattle.bits.proofs.VecLaws.{length-vec, bit_at-vec, vec-ext}
use Rattle.bits.specs.Words.{bit_at}
use Rattle.bits.specs.Column.{column_bit, value_of}
use Rattle.rules.specs.Limits.{max_values, max_rows}
use Rattle.rules.specs.Refusals.{outside, some_outside, bad_column, tests}
use Rattle.rules.proofs.Small.{or_parts}
use Rattle.rules.proofs.Shapes.{some_of, some-passed}
use Rattle.tables.specs.declared.session.Session.{Session}
use Rattle.tables.specs.declared.counts.Value.{Value}
use Rattle.tables.specs.declared.refusal.Refusal.TheVariants.{NoRoom, BadColumn}
use Rattle.tables.specs.Cells.{Tables, tables}
use Rattle.tables.specs.Stores.{put_clock}
use Rattle.tables.specs.Room.{room_for}
use Rattle.tables.proofs.Facts.{room-is, room-lengths}
use Rattle.outcomes.specs.declared.answers.Answer.{Answer}
use Rattle.outcomes.specs.declared.answers.Answer.TheVariants.{Count}
use Rattle.outcomes.specs.Said.{numbers_of, numbers}
use Rattle.outcomes.specs.Outcome.{outcome, refusal_of_create, unless}
use Rattle.outcomes.specs.Calls.{below, column_of, created_tables, create_of}
use Rattle.creating.specs.Create.{Creatable, Created}
use Rattle.outcomes.specs.Seats.{Creates}
use Rattle.outcomes.specs.Narrow.{narrowed}
use Rattle.outcomes.proofs.NarrowLaws.{narrow-cases}

-- ---- the column's test

-- none of the first n bytes is neither below C nor 255
unfoldable pub known_to : ℕ → List ℕ → ℕ → Bool
known_to C col n = not (some_of (λ b. outside C (value_of b)) (take n col))

some_bytes : (C : ℕ) (col : List ℕ) → some_outside C (column_of col) ≡ some_of (λ b. outside C (value_of b)) col
some_bytes C [] = refl
some_bytes C (b ∷ col) = ap (λ (t : Bool). outside C (value_of b) || t) (some_bytes C col)

byte-known : (C b : ℕ) → not (outside C (value_of b)) ≡ (ltb b C || eqb b 255)
unfolding value_of
byte-known C b = go (eq-cases b 255)
  where
    at : (b < C) ⊎ (C ≤ b) → not (leb C b) ≡ (ltb b C || false)
    at (inl l) = rw (lt-leb C b l, lt-ltb b C l)
    at (inr l) = rw (le-leb C b l, le-ltb b C l)

    or-true : (t : Bool) → true ≡ (t || true)
    or-true true = refl
    or-true false = refl

    go : (b ≡ 255) ⊎ (b ≡ 255 → ⊥) → not (outside C (cond (eqb b 255) none (some b))) ≡ (ltb b C || eqb b 255)
    go (inl e) = rw (eq-eqb b 255 e) (or-true (ltb b C))
    go (inr n) = rw (ne_eqb b 255 n) (at (lt-cases b C))

not-or : (a b : Bool) → not (a || b) ≡ (not a && not b)
not-or true b = refl
not-or false b = refl

module _ (C : ℕ) (col : List ℕ) where
  pub known-none : true ≡ known_to C col 0
  unfolding known_to
  known-none = refl

  pub known_more : (r : ℕ) (ok : Bool) → r < length col → ok ≡ known_to C col r
      → ok && (ltb (get_or col r 0) C || eqb (get_or col r 0) 255) ≡ known_to C col (r + 1)
  unfolding known_to
  known_more r ok h e =
      let p : ℕ → Bool = λ b. outside C (value_of b) in
      ap₂ (λ (x y : Bool). x && y) e (sym (byte-known C (get_or col r 0))) ∙ sym (not-or (some_of p (take r col)) (p (get_or col r 0)))
      ∙ ap not (sym (some-passed p col r 0 h))

  pub known-all : (r : ℕ) (ok : Bool) → ok ≡ known_to C col r → length col ≤ r → ok ≡ not (some_outside C (column_of col))
  unfolding known_to
  known-all r ok e h =
      e ∙ ap (λ (l : List ℕ). not (some_of (λ b. outside C (value_of b)) l)) (take_all r col h) ∙ ap not (sym (some_bytes C col))

  -- 3, sentence by sentence
  pub bad-none : C ≡ 0 → true ≡ bad_column C (column_of col)
  unfolding bad_column
  bad-none e = rw (eq-eqb C 0 e)

  pub bad-many : (C ≡ 0 → ⊥) → 32 < C → true ≡ bad_column C (column_of col)
  unfolding bad_column max_values
  bad-many n h = rw (ne_eqb C 0 n, lt-ltb 32 C h)

  pub bad-long : (C ≡ 0 → ⊥) → C ≤ 32 → 2048 < length col → true ≡ bad_column C (column_of col)
  unfolding bad_column max_values max_rows
  bad-long n h l = rw (ne_eqb C 0 n, le-ltb 32 C h, length-map col value_of, lt-ltb 2048 (length col) l)

  pub bad-bytes : (C ≡ 0 → ⊥) → C ≤ 32 → length col ≤ 2048 → (ok : Bool) → ok ≡ not (some_outside C (column_of col))
      → not ok ≡ bad_column C (column_of col)
  unfolding bad_column max_values max_rows
  bad-bytes n h l ok e =
      ap not e ∙ not-not (some_outside C (column_of col))
      ∙ rw (ne_eqb C 0 n, le-ltb 32 C h, length-map col value_of, le-ltb 2048 (length col) l)
    where
      not-not : (b : Bool) → not (not b) ≡ b
      not-not true = refl
      not-not false = refl

  -- none of them
  pub good-column : bad_column C (column_of col) ≡ false → (C ≤ 32) × (length col ≤ 2048)
  unfolding bad_column max_values max_rows
  good-column e =
      let n = length (column_of col) in
      let p = or_parts (eqb C 0 || ltb 32 C || ltb 2048 n) (some_outside C (column_of col)) e in
      let q = or_parts (eqb C 0 || ltb 32 C) (ltb 2048 n) p.0 in
      let r = or_parts (eqb C 0) (ltb 32 C) q.0 in
      (ltb-false 32 C r.1, omega (arith, ltb-false 2048 n q.1, length-map col value_of))

-- a caller's C and the value that it is narrowed to are refused alike, and are one number where they are not refused
bad-narrowed : (C : ℕ) (col : List ℕ) → bad_column (narrowed C) (column_of col) ≡ bad_column C (column_of col)
bad-narrowed C col = go (narrow-cases C)
  where
    go : (narrowed C ≡ C) ⊎ ((2048 ≤ narrowed C) × (2048 ≤ C)) → bad_column (narrowed C) (column_of col) ≡ bad_column C (column_of col)
    go (inl e) = ap (λ (m : ℕ). bad_column m (column_of col)) e
    go (inr h) =
        sym (bad-many (narrowed C) col (λ z. absurd (omega arith)) (omega arith)) ∙ bad-many C col (λ z. absurd (omega arith)) (omega arith)

narrowed_low : (C : ℕ) → narrowed C ≤ 32 → narrowed C ≡ C
narrowed_low C l = go (narrow-cases C)
  where
    go : (narrowed C ≡ C) ⊎ ((2048 ≤ narrowed C) × (2048 ≤ C)) → narrowed C ≡ C
    go (inl e) = e
    go (inr h) = absurd (omega arith)

-- ---- cells

-- the first cells get their own numbers, the others become 0
module _ (c : ℕ) (d₀ d : List ℕ) (i : ℕ) (f : Filled (below c) d₀ d i) where
  pub number_more : (v : ℕ) → i < length d₀ → v ≡ i → i < c → Filled (below c) d₀ (set d i v) (i + 1)
  number_more v room e h = filled_more (below c) f (omega (arith, f.same)) (e ∙ ap (λ (t : Bool). cond t i 0) (sym (lt-ltb i c h)))

  pub zero_more : (v : ℕ) → i < length d₀ → v ≡ 0 → c ≤ i → Filled (below c) d₀ (set d i v) (i + 1)
  zero_more v room e h = filled_more (below c) f (omega (arith, f.same)) (e ∙ ap (λ (t : Bool). cond t i 0) (sym (le-ltb i c h)))

  pub numbered-to : (n : ℕ) → i ≤ n → n ≤ i → d ≡ over (tab (below c) n) d₀
  numbered-to n h l = let e : i ≡ n = omega arith in f.sofar ∙ ap (λ (k : ℕ). over (tab (below c) k) d₀) e

-- ---- vectors and the clock

pub columns-written : (p z d col : List ℕ) → z ≡ vec (λ r. false) (length p) → d ≡ vec (λ q. bit_at z q || column_bit col q) (length z)
    → d ≡ vec (column_bit col) (length p)
columns-written p z d col e q =
    let n : length z ≡ length p = ap length e ∙ length-vec (λ r. false) (length p) in
    q
    ∙ ap (vec (λ q. bit_at z q || column_bit col q)) n
    ∙ vec-ext (λ q. bit_at z q || column_bit col q) (column_bit col) (length p)
    (λ r l. ap (λ (t : Bool). t || column_bit col r) (ap (λ (w : List ℕ). bit_at w r) e ∙ bit_at-vec (λ r. false) (length p) r l))

-- the first n words
words-made : (f : ℕ → Bool) (n : ℕ) (d words : List ℕ) → n ≤ length words → d ≡ vec f (length (take n words))
    → d ++ drop n words ≡ over (vec f n) words
words-made f n d words h e =
    ap₂ (λ (x : List ℕ) (k : ℕ). x ++ drop k words) (e ∙ ap (vec f) (length-take-le n words h)) (sym (length-vec f n))

clock-made : (clock : List ℕ) (c rows : ℕ) → 6 ≤ length clock
    → put_clock clock c rows 0 rows c 0 ≡ over (c ∷ rows ∷ 0 ∷ rows ∷ c ∷ 0 ∷ []) clock
unfolding put_clock
clock-made clock c rows h = sets-eq (c ∷ rows ∷ 0 ∷ rows ∷ c ∷ 0 ∷ []) clock 0 h

-- ---- the call

module _ (clock slots words heads log changes : List ℕ) where
  -- the words that are lent to be filled
  module _ (c : ℕ) (col : List ℕ) (f : Creatable clock slots words heads log changes c col) where
    pub front_length : 3072 ≡ length (take 3072 words)
    front_length = sym (length-take-le 3072 words f.room.words-room)

    pub front-needs : (1024 ≤ length (take 3072 words)) × (length col ≤ 2048)
    front-needs = (omega (arith, front_length), f.few-rows)

  pub create-made : (clock' slots' d heads' log' changes' col : List ℕ) (c rows : ℕ) → Creatable clock slots words heads log changes c col
      → rows ≡ length col → slots' ≡ over (tab (below c) 288) slots → heads' ≡ over (tab (below c) 32) heads
      → log' ≡ over (replicate 2048 0) log
      → changes' ≡ over (replicate 4096 0) changes → d ≡ vec (column_bit col) (length (take 3072 words))
      → clock' ≡ put_clock clock c rows 0 rows c 0
      → Created (tables clock slots words heads log changes) (tables clock' slots' (d ++ drop 3072 words) heads' log' changes') c col
      (Count rows)
  create-made clock' slots' d heads' log' changes' col c rows f n es eh el ec ew ek = record {
    made = λ ts. rw (
      es,
      eh,
      el,
      ec,
      ek,
      words-made (column_bit col) 3072 d words f.room.words-room ew,
      n,
      clock-made clock c
          (length col) f.room.clock-room,
    );
    answers = ap Count n;
  }

  module _ (places c : ℕ) (col : List ℕ) where
    abbrev before : List Session → Tables
    before = tables clock slots words heads log changes

    -- "1": and nothing changes
    pub create-no-room : (r : Bool) → r ≡ room_for clock slots words heads log changes places → r ≡ false
        → Creates before before places (Err NoRoom) (λ t. create_of t c col)
    unfolding create_of refusal_of_create unless
    create-no-room r e h = λ ts q. rw (sym (room-is (before ts) places q), sym e, h)

    -- "3": and nothing changes
    module _ (r : Bool) (e : r ≡ room_for clock slots words heads log changes places) (h : r ≡ true) (v : Value)
        (is : v.0 ≡ narrowed c) (b : Bool) (p : b ≡ bad_column v.0 (column_of col)) where
      roomy-is : room_for clock slots words heads log changes places ≡ true
      roomy-is = sym e ∙ h

      judged : bad_column c (column_of col) ≡ b
      judged = sym (p ∙ ap (λ (m : ℕ). bad_column m (column_of col)) is ∙ bad-narrowed c col)

      pub create-refused : b ≡ true → Creates before before places (Err BadColumn) (λ t. create_of t c col)
      unfolding create_of refusal_of_create unless tests
      create-refused m = λ ts q. rw (sym (room-is (before ts) places q), roomy-is, judged, m)

      module _ (m : b ≡ false) where
        -- what the work needs
        pub creatable : Creatable clock slots words heads log changes v.0 col
        creatable =
            let g = good-column v.0 col (sym p ∙ m) in
            record { room = room-lengths clock slots words heads log changes places roomy-is; few-values = g.0; few-rows = g.1 }

        value-is : v.0 ≡ c
        value-is = is ∙ narrowed_low c (omega (arith, is, creatable.few-values))

        pub create-done : (after : List Session → Tables) (a : Answer) → Created before after v.0 col a
            → Creates before after places (Ok a) (λ t. create_of t c col)
        unfolding create_of refusal_of_create unless tests
        create-done after a f = λ ts q.
            ap₂ (λ (u : Tables) (x : Answer). outcome u [] (numbers_of x)) (f.made ts) f.answers
            ∙ ap (λ (w : ℕ). outcome (created_tables (before ts) w col) [] (numbers (length col ∷ []))) value-is
            ∙ rw (sym (room-is (before ts) places q), roomy-is, judged, m)
