-- THE HEART. The log and the versions agree with the plain column at every moment: the log and the observer's events keep pace,
-- which concerns rows; one value's versions and the log, which concerns one chain; all of them together, and a read as the plain
-- column's cell; and a creation from an accepted column, where they agree. Kept by one more record.
use mathlib.Core.Path.{◌≡◌, sym, ◌∙◌, refl}
use mathlib.Core.Bool.{false, Bool, true, cond, ◌||◌}
use mathlib.Core.Option.{none, some, Option, none-ne-some}
use mathlib.Core.List.{List, [], ◌∷◌, ◌++◌}
use Prim.Native.Nat.{ℕ, suc, ◌≤◌, ◌<◌, zero}
use native.Mathlib.Omega.{arith}
use borrow.Author.Tests.{eq-eqb, ne_eqb, leb-false, ltb-false, eqb-false}
use lib.ListN.{length, drop, take, get_or-eq_default}
use lib.Seq.{drop-append-le, take-append-le, take-length, take-nil, drop-nil}
use lib.Dec.{eqb, ltb}
use Rattle.bits.specs.Bit.{xorb, bit}
use Rattle.bits.proofs.BitLaws.{xorb-twice, bit-of-zero}
use Rattle.bits.specs.Rows.{rows_below, smallest_below}
use Rattle.bits.proofs.RowLaws.{length-rows, rows_ext, count-ext, where-cut, smallest-none, smallest-some, smallest-ext}
use Rattle.bits.specs.Tab.{tab}
use Rattle.bits.proofs.TabLaws.{length-tab, get_or-tab}
use Rattle.rules.specs.Limits.{max_rows, max_values}
use Rattle.rules.specs.State.{Record, Log, Version, Chain, chain}
use Rattle.rules.specs.Log.{stamp_of, above, grown, changes_of, last_naming, names, flip_set}
use Rattle.rules.specs.Calls.{Column, cell, holds}
use Rattle.rules.specs.Plain.{Event, replay, touches, is_tidy_of, last_tidy, holding, changed_rows}
use Rattle.rules.specs.Versions.{newest, version_at, flipped, queried, flip_count, read_at}
use Rattle.rules.specs.Tidy.{moves, moved}
use Rattle.rules.specs.Refusals.{outside, some_outside, bad_column}
use Rattle.rules.specs.Step.{first_chain}
use Rattle.rules.proofs.Small.{length-snoc, drop-snoc, up-to-next, take_snoc, xorb-false, or_parts}
use Rattle.rules.proofs.Changes.{names-append}
use Rattle.rules.proofs.LogLaws.{stamp-grown, above-old, above_new, flip_set-new, flip_set-old, flipped-is, stamp-empty}
use Rattle.rules.proofs.LogLaws.{flip_set-empty, above-empty, version-newest, version-older, version-before, version-again}
use Rattle.rules.proofs.PlainLaws.{column_after, replay-append, replay-since, column-old, column-new, column-now, column-grows}
use Rattle.rules.proofs.PlainLaws.{touched, touched-snoc, untouched-cell, columns-grow, last_tidy-snoc}

-- the events with one more, and a fact at every k up to it: at those before, and at the new one
more : List Event → Event → List Event
more h e = h ++ (e ∷ [])

each : (h : List Event) (e : Event) (P : ℕ → Type 0) → ((k : ℕ) → k ≤ length h → P k) → P (suc (length h)) → (k : ℕ)
    → k ≤ length (more h e) → P k
unfolding more
each h e P old new = up-to-next P old new (length-snoc h e)

-- C values, the first column, the row count, the log and the events
pub record Logged (C : ℕ) (col : Column) (rows : ℕ) (log : Log) (h : List Event) : Type 0 where
  -- one event for each record
  pub pace : stamp_of log ≡ length h
  pub rows-now : rows ≡ length (replay col h)
  pub rows_fit : rows ≤ max_rows
  pub valued : (k r a : ℕ) → k ≤ length h → cell (column_after col h k) r ≡ some a → a < C
  -- no row at or above the row count has a flip set
  pub within : (r : ℕ) → rows ≤ r → flip_set log (stamp_of log) r ≡ 0
  -- a row of the column at k is named above k exactly if an event after the first k touches it
  pub seen : (k r : ℕ) → k ≤ length h → r < length (column_after col h k) → names (changes_of (above log k)) r ≡ touched (drop k h) r

-- what one more record x and one more event e have to bring
pub record NextLogged (C : ℕ) (col : Column) (rows : ℕ) (h : List Event) (x : Record) (e : Event) : Type 0 where
  pub next-rows : x.rows ≡ length (replay (replay col h) (e ∷ []))
  pub next-fit : x.rows ≤ max_rows
  pub next-valued : (r a : ℕ) → cell (replay (replay col h) (e ∷ [])) r ≡ some a → a < C
  pub next-within : (r : ℕ) → x.rows ≤ r → last_naming x.changes r ≡ none
  pub next-seen : (r : ℕ) → r < rows → names x.changes r ≡ touches e r

module _ (C : ℕ) (col : Column) (rows : ℕ) (log : Log) (h : List Event) (c : Logged C col rows log h) where
  -- a row of the column at k that no record above k names is as it was at k
  pub still : (k r : ℕ) → k ≤ length h → r < length (column_after col h k) → names (changes_of (above log k)) r ≡ false
      → cell (replay col h) r ≡ cell (column_after col h k) r
  still k r l q n = rw (replay-since col h k) (untouched-cell (column_after col h k) (drop k h) r q (sym (c.seen k r l q) ∙ n))

  pub columns-fit : (k : ℕ) → length (column_after col h k) ≤ max_rows
  columns-fit k = omega (arith, column-grows col h k, c.rows-now, c.rows_fit)

  pub valued-now : (r a : ℕ) → cell (replay col h) r ≡ some a → a < C
  valued-now r a q = c.valued (length h) r a (omega arith) (rw (column-now col h) q)

  module _ (x : Record) (e : Event) (n : NextLogged C col rows h x e) where
    longer : rows ≤ x.rows
    longer = omega (arith, c.rows-now, n.next-rows, column-grows (replay col h) (e ∷ []) 0)

    grown-valued : (k : ℕ) → k ≤ length (more h e) → (r a : ℕ) → cell (column_after col (more h e) k) r ≡ some a → a < C
    unfolding more
    grown-valued =
        each h e (λ k. (r a : ℕ) → cell (column_after col (more h e) k) r ≡ some a → a < C)
        (λ k l r a q. c.valued k r a l (rw (column-old col h e k l) at q))
        (λ r a q. n.next-valued r a (rw (column-new col h e) at q))

    grown-seen : (r : ℕ) (k : ℕ) → k ≤ length (more h e) → r < length (column_after col (more h e) k)
        → names (changes_of (above (grown log x) k)) r ≡ touched (drop k (more h e)) r
    unfolding more
    grown-seen r =
        each h e
        (λ k. r < length (column_after col (more h e) k) → names (changes_of (above (grown log x) k)) r ≡ touched (drop k (more h e)) r) old
        (λ q. rw (← c.pace, above_new log x, c.pace, drop-snoc h e))
      where
        old : (k : ℕ) → k ≤ length h → r < length (column_after col (more h e) k)
            → names (changes_of (above (grown log x) k)) r ≡ touched (drop k (more h e)) r
        old k l q =
            let m : r < length (column_after col h k) = rw (column-old col h e k l) at q in
            let o : r < rows = omega (arith, column-grows col h k, c.rows-now) in
            rw (
              above-old log x k (rw c.pace l),
              drop-append-le k h (e ∷ []) l,
              names-append (changes_of (above log k)) x.changes r,
              touched-snoc (drop k h) e r,
              c.seen k r l m,
              n.next-seen r o,
            )

    pub grow-logged : Logged C col x.rows (grown log x) (h ++ (e ∷ []))
    unfolding more
    grow-logged =
        record {
          pace = rw (stamp-grown log x, length-snoc h e, c.pace);
          rows-now = rw (replay-append col h (e ∷ [])) n.next-rows;
          rows_fit = n.next-fit;
          valued = λ k r a l. grown-valued k l r a;
          within = λ r l. rw (stamp-grown log x, flip_set-new log x r, n.next-within r l) (c.within r (omega (arith, longer)));
          seen = λ k r. grown-seen r k;
        }

-- the log, the versions of v, the first column and the events
pub record Agrees (log : Log) (ch : Chain) (v : ℕ) (col : Column) (h : List Event) : Type 0 where
  pub head-old : (newest ch).stamp ≤ length h
  -- the version at k has the stamp of the last tidy of v among the first k events
  pub placed : (k : ℕ) → k ≤ length h → (version_at ch k).stamp ≡ last_tidy v (take k h)
  -- at a version's stamp no flip set has v
  pub clean : (k r : ℕ) → k ≤ length h → bit (flip_set log (version_at ch k).stamp r) v ≡ false
  -- the version at k, with the flip sets at k, is the column at k
  pub right : (k r : ℕ) → k ≤ length h → xorb ((version_at ch k).vector r) (bit (flip_set log k r) v) ≡ holds (cell (column_after col h k) r) v

-- a set that turns a into b, on top of the one that made a
turned : (x f b : Bool) → xorb x (xorb f (xorb (xorb x f) b)) ≡ b
turned true true true = refl
turned true true false = refl
turned true false true = refl
turned true false false = refl
turned false f b = xorb-twice f b

module _ (log : Log) (ch : Chain) (v : ℕ) (col : Column) (h : List Event) (a : Agrees log ch v col h) where
  -- ---- what the agreement gives

  -- the newest version, with the flip sets now, is the column now
  pub right-now : stamp_of log ≡ length h → (r : ℕ)
      → xorb ((newest ch).vector r) (bit (flip_set log (stamp_of log) r) v) ≡ holds (cell (replay col h) r) v
  right-now p r = rw (p, ← (version-newest ch (length h) a.head-old), ← (column-now col h)) (a.right (length h) r (omega arith))

  -- a row is flipped exactly if its flip set at s has v
  flips-are : (s r : ℕ) → s ≤ length h → flipped log ch s v r ≡ moves log s v r
  flips-are s r l = flipped-is log ch s v r (version-before ch s) (a.clean s r l)

  -- what is queried at s is the column at s
  pub queried-is : (s r : ℕ) → s ≤ length h → queried log ch s v r ≡ holds (cell (column_after col h s) r) v
  unfolding queried
  queried-is s r l = rw (flips-are s r l) (a.right s r l)

  -- a row moves exactly if it holds v in one only of the columns at the last tidy and at s
  moves-at : (s r : ℕ) → s ≤ length h
      → moves log s v r ≡ xorb (holds (cell (column_after col h (last_tidy v (take s h))) r) v) (holds (cell (column_after col h s) r) v)
  moves-at s r l =
      let b = (version_at ch s).stamp in
      let o : b ≤ length h = omega (arith, version-before ch s) in
      let e : (version_at ch s).vector r ≡ holds (cell (column_after col h b) r) v =
      sym (xorb-false ((version_at ch s).vector r)) ∙ rw (← (a.right b r o), version-again ch s, a.clean s r l) in
      rw (← (a.placed s l), ← e, ← (a.right s r l)) (sym (xorb-twice ((version_at ch s).vector r) (bit (flip_set log s r) v)))

  -- no row past the column at s moves
  pub moves-none : (s r : ℕ) → s ≤ length h → length (column_after col h s) ≤ r → moves log s v r ≡ false
  moves-none s r l o =
      let q : last_tidy v (take s h) ≤ s = rw (← (a.placed s l)) (version-before ch s) in
      let p : length (column_after col h (last_tidy v (take s h))) ≤ r = omega (arith, columns-grow col h (last_tidy v (take s h)) s q) in
      rw (
        moves-at s r l,
        get_or-eq_default (column_after col h s) none o,
        get_or-eq_default (column_after col h (last_tidy v (take s h))) none p,
      )

  module _ (s : ℕ) (l : s ≤ length h) (fit : length (column_after col h s) ≤ max_rows) where
    -- the rows that a query lists
    pub queried-rows : rows_below (queried log ch s v) max_rows ≡ holding (column_after col h s) v
    queried-rows =
        rows_ext (queried log ch s v) (λ r. holds (cell (column_after col h s) r) v) max_rows (λ r o. queried-is s r l)
        ∙ where-cut (λ r. holds (cell (column_after col h s) r) v) (length (column_after col h s)) max_rows
        (λ r o. rw (get_or-eq_default (column_after col h s) none o)) fit

    -- the rows that a tidy moves
    pub moved-rows : moved log s v ≡ changed_rows (column_after col h (last_tidy v (take s h))) (column_after col h s) v
    unfolding moved
    moved-rows =
        where-cut (moves log s v) (length (column_after col h s)) max_rows (λ r. moves-none s r l) fit
        ∙ rows_ext (moves log s v) _ (length (column_after col h s)) (λ r o. moves-at s r l)

    -- the flip count
    pub flip-count : flip_count log ch s v ≡ length (moved log s v)
    unfolding moved
    flip-count =
        count-ext (flipped log ch s v) (moves log s v) max_rows (λ r o. flips-are s r l) ∙ sym (length-rows (moves log s v) max_rows)

  -- ---- one record more

  module _ (p : stamp_of log ≡ length h) (x : Record) (e : Event) where
    -- the versions then: what they have to bring
    module _ (ch' : Chain) (head : (newest ch').stamp ≤ suc (length h)) (older : (k : ℕ) → k ≤ length h → version_at ch' k ≡ version_at ch k)
        (place : (newest ch').stamp ≡ cond (is_tidy_of v e) (suc (length h)) (last_tidy v h))
        (free : (r : ℕ) → bit (flip_set (grown log x) (newest ch').stamp r) v ≡ false)
        (made : (r : ℕ) → xorb ((newest ch').vector r) (bit (flip_set (grown log x) (suc (stamp_of log)) r) v)
        ≡ holds (cell (replay (replay col h) (e ∷ [])) r) v) where
      now : version_at ch' (suc (length h)) ≡ newest ch'
      now = version-newest ch' (suc (length h)) head

      old-set : (k r : ℕ) → k ≤ length h → flip_set (grown log x) k r ≡ flip_set log k r
      old-set k r l = flip_set-old log x k r (rw p l)

      next-placed : (k : ℕ) → k ≤ length (more h e) → (version_at ch' k).stamp ≡ last_tidy v (take k (more h e))
      unfolding more
      next-placed =
          each h e (λ k. (version_at ch' k).stamp ≡ last_tidy v (take k (more h e)))
          (λ k l. rw (older k l, take-append-le k h (e ∷ []) l) (a.placed k l))
          (rw (now, take_snoc h e, last_tidy-snoc v h e) place)

      next-clean : (r k : ℕ) → k ≤ length (more h e) → bit (flip_set (grown log x) (version_at ch' k).stamp r) v ≡ false
      next-clean r =
          each h e (λ k. bit (flip_set (grown log x) (version_at ch' k).stamp r) v ≡ false)
          (λ k l. rw (older k l, old-set (version_at ch k).stamp r (omega (arith, version-before ch k))) (a.clean k r l))
          (rw now (free r))

      next-right : (r k : ℕ) → k ≤ length (more h e)
          → xorb ((version_at ch' k).vector r) (bit (flip_set (grown log x) k r) v) ≡ holds (cell (column_after col (more h e) k) r) v
      unfolding more
      next-right r =
          each h e
          (λ k. xorb ((version_at ch' k).vector r) (bit (flip_set (grown log x) k r) v) ≡ holds (cell (column_after col (more h e) k) r) v)
          (λ k l. rw (older k l, old-set k r l, column-old col h e k l) (a.right k r l))
          (rw (now, column-new col h e, ← p) (made r))

      next : Agrees (grown log x) ch' v col (more h e)
      unfolding more
      next =
          record {
            head-old = rw (length-snoc h e) head;
            placed = next-placed;
            clean = λ k r. next-clean r k;
            right = λ k r. next-right r k;
          }

    -- the value keeps its versions: its flips turn as the column does
    pub agrees-kept : is_tidy_of v e ≡ false
        → ((r : ℕ) → bit (flip_set (grown log x) (suc (stamp_of log)) r) v
        ≡ xorb (bit (flip_set log (stamp_of log) r) v)
        (xorb (holds (cell (replay col h) r) v) (holds (cell (replay (replay col h) (e ∷ [])) r) v)))
        → Agrees (grown log x) ch v col (h ++ (e ∷ []))
    unfolding more
    agrees-kept t turns =
        let n = version-newest ch (length h) a.head-old in
        next ch (omega (arith, a.head-old)) (λ k l. refl)
        (rw (t, ← n) (a.placed (length h) (omega arith) ∙ rw take-length))
        (λ r. rw (flip_set-old log x (newest ch).stamp r (omega (arith, p, a.head-old)), ← n) (a.clean (length h) r (omega arith)))
        (λ r. rw (turns r, ← (right-now p r)) (turned ((newest ch).vector r) (bit (flip_set log (stamp_of log) r) v)
        (holds (cell (replay (replay col h) (e ∷ [])) r) v)))

    -- the value gets a new version: it is the column, and no flip set has the value
    pub agrees-renewed : (f : ℕ → Bool) → is_tidy_of v e ≡ true
        → ((r : ℕ) → bit (flip_set (grown log x) (suc (stamp_of log)) r) v ≡ false)
        → ((r : ℕ) → f r ≡ holds (cell (replay (replay col h) (e ∷ [])) r) v)
        → Agrees (grown log x) (record { stamp = suc (stamp_of log); vector = f } ∷ ch) v col (h ++ (e ∷ []))
    unfolding more
    agrees-renewed f t free is =
        let y : Version = record { stamp = suc (stamp_of log); vector = f } in
        next (y ∷ ch) (omega (arith, p)) (λ k l. version-older y ch k (omega (arith, p))) (rw (t, p)) free
        (λ r. rw (free r, is r) (xorb-false _))

-- C values, the first column, the row count, the log, the versions of each value, the events
pub record Core (C : ℕ) (col : Column) (rows : ℕ) (log : Log) (chains : List Chain) (h : List Event) : Type 0 where
  pub logged : Logged C col rows log h
  pub width : length chains ≡ C
  pub agrees : (v : ℕ) → v < C → Agrees log (chain chains v) v col h

-- the smallest value that a row holds is the one that it holds
smallest-held : (C : ℕ) (o : Option ℕ) → ((a : ℕ) → o ≡ some a → a < C) → smallest_below (λ v. holds o v) C ≡ o
smallest-held C none w = (smallest-none (λ v. holds none v) C).1 (λ k l. refl)
smallest-held C (some a) w =
    (smallest-some (λ v. holds (some a) v) C a).1
    (record { below = w a refl; has = eq-eqb a a refl; least = λ k l. ne_eqb a k (omega arith) })

pub read_is : (C : ℕ) (col : Column) (rows : ℕ) (log : Log) (chains : List Chain) (h : List Event) → Core C col rows log chains h
    → (s : ℕ) → s ≤ length h → (r : ℕ) → read_at C log chains s r ≡ cell (column_after col h s) r
unfolding read_at
read_is C col rows log chains h c s l r =
    smallest-ext (λ v. queried log (chain chains v) s v r) (λ v. holds (cell (column_after col h s) r) v) C
    (λ v o. queried-is log (chain chains v) v col h (c.agrees v o) s r l)
    ∙ smallest-held C (cell (column_after col h s) r) (λ a e. c.logged.valued s r a l e)

-- what an accepted column is
pub record Good (C : ℕ) (col : Column) : Type 0 where
  pub some-value : 1 ≤ C
  pub values-fit : C ≤ max_values
  pub column_fits : length col ≤ max_rows
  pub inside : (r a : ℕ) → cell col r ≡ some a → a < C

all-inside : (C : ℕ) (col : Column) (r a : ℕ) → some_outside C col ≡ false → cell col r ≡ some a → a < C
all-inside C [] r a e q = absurd (none-ne-some a q)
all-inside C (o ∷ col) zero a e q = leb-false C a (rw q at (or_parts (outside C o) (some_outside C col) e).0)
all-inside C (o ∷ col) (suc r) a e q = all-inside C col r a (or_parts (outside C o) (some_outside C col) e).1 q

pub good-column : (C : ℕ) (col : Column) → bad_column C col ≡ false → Good C col
unfolding bad_column
good-column C col e =
    let p = or_parts (eqb C 0 || ltb max_values C || ltb max_rows (length col)) (some_outside C col) e in
    let q = or_parts (eqb C 0 || ltb max_values C) (ltb max_rows (length col)) p.0 in
    let t = or_parts (eqb C 0) (ltb max_values C) q.0 in
    let d = eqb-false C 0 t.0 in
    record {
      some-value = omega arith;
      values-fit = ltb-false max_values C t.1;
      column_fits = ltb-false max_rows (length col) q.1;
      inside = λ r a. all-inside C col r a p.1;
    }

start-agrees : (col : Column) (v : ℕ) → Agrees [] (first_chain col v) v col []
start-agrees col v =
    record {
      head-old = omega arith;
      placed = λ k l. rw (first k, take-nil k);
      clean = λ k r l. rw (flip_set-empty (version_at (first_chain col v) k).stamp r) (bit-of-zero v);
      right = λ k r l. rw (first k, flip_set-empty k r, bit-of-zero v, take-nil k) (xorb-false (holds (cell col r) v));
    }
  where
    first : (k : ℕ) → version_at (first_chain col v) k ≡ newest (first_chain col v)
    first k = version-newest (first_chain col v) k (omega arith)

pub start-core : (C : ℕ) (col : Column) → bad_column C col ≡ false → Core C col (length col) [] (tab (first_chain col) C) []
start-core C col e =
    let g = good-column C col e in
    record {
      logged =
          record {
            pace = stamp-empty;
            rows-now = refl;
            rows_fit = g.column_fits;
            valued = λ k r a l q. g.inside r a (rw (take-nil k) at q);
            within = λ r l. flip_set-empty (stamp_of []) r;
            seen = λ k r l q. rw (above-empty k, drop-nil k);
          };
      width = length-tab (first_chain col) C;
      agrees = λ v l. rw (get_or-tab (first_chain col) C v [] l) (start-agrees col v);
    }
