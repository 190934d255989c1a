-- What an accepted commit writes, step by step: flip sets, the changes of the listed rows and of the inserts.
use mathlib.Core.Path.{◌≡◌, refl, sym, ap, ap₂, ◌∙◌}
use mathlib.Core.Option.{Option, some}
use mathlib.Core.List.{List, [], ◌∷◌, ◌++◌}
use Prim.Native.Nat.{ℕ, suc, ◌+◌, ◌≤◌, ◌<◌}
use native.Mathlib.Omega.{arith}
use mir.Syntax.{w32}
use mir.Val.{Fits}
use lib.ListN.{length, get_or, length-append}
use Rattle.bits.specs.Tab.{tab}
use Rattle.rules.specs.Lists.{inserts}
use Rattle.rules.specs.Commit.{row_changes}
use Rattle.rules.proofs.Shapes.{inserts-append}
use Rattle.tables.specs.declared.session.Session.{Session}
use Rattle.tables.specs.declared.clock.Clock.{Clock}
use Rattle.tables.specs.declared.counts.Row.{Row}
use Rattle.tables.specs.declared.counts.Value.{Value}
use Rattle.tables.specs.Cells.{values_in, end_at}
use Rattle.tables.specs.Clock.{clock_in}
use Rattle.tables.specs.Stores.{put_change}
use Rattle.tables.specs.Meaning.{change_at, target_of, entry_at, entries}
use Rattle.tables.specs.Stretch.{stretch}
use Rattle.tables.proofs.Stores.{length-change}
use Rattle.tables.proofs.Stretch.{tab-stretch, stretch-join}
use Rattle.history.specs.declared.changes.Last.{Last}
use Rattle.std.specs.Prelude as kit
use Rattle.history.specs.Last.{set_of, last_set, last_of}
use Rattle.history.specs.Read.{standing_of, read_cells, read_after}
use Rattle.history.proofs.LastLaws.{set_of-last}
use Rattle.history.proofs.ReadLaws.{read_is}
use Rattle.history.proofs.Kept.{set-kept, read_kept}
use Rattle.outcomes.specs.Stores.{put_changes}
use Rattle.committing.specs.Commit.{toggled_in, new_cells, insert_cells, RowReady, RowsReady, RowsStored, InsertsReady, InsertsStored}
use Rattle.outcomes.proofs.StoreLaws.{changes-before, changes-snoc}
use Rattle.outcomes.proofs.ListLaws.{inserts-new, inserts-row, rows_new, rows_row}

-- ---- the new set of a row

module _ (clock slots words heads log changes : List ℕ) (s : ℕ) (c : Clock) (k : c ≡ clock_in clock) where
  pub new_is : (row to end : ℕ) (last : kit.Option Last) (held target : kit.Option Value) (set a r : ℕ) → end ≡ end_at log s
      → last ≡ last_of changes end row → standing_of held ≡ read_after slots words heads log c.values.0 s row last
      → set ≡ set_of last → a ≡ toggled_in set (standing_of held) → standing_of target ≡ target_of to
      → r ≡ toggled_in a (standing_of target) → r ≡ new_cells slots words heads log changes (values_in clock) s row (target_of to)
  unfolding new_cells clock_in
  new_is row to end last held target set a r e l h w p q z =
      z ∙ ap₂ toggled_in (p ∙ ap₂ toggled_in
      (w ∙ ap set_of l ∙ set_of-last changes row end ∙ ap (λ (n : ℕ). last_set changes 0 n row) e)
      (read_is slots words heads log changes c.values.0 s row end last (standing_of held) e l h
      ∙ ap (λ (d : Clock). read_cells slots words heads log changes d.values.0 s row) k)) q

-- ---- the table's length stays

module _ (changes changes' changes'' : List ℕ) (e : length changes' ≡ length changes) where
  pub length-put : (stored : List ℕ) (p row set : ℕ) → changes'' ≡ stored → stored ≡ put_change changes' p row set
      → length changes'' ≡ length changes
  length-put stored p row set y z = ap length (y ∙ z) ∙ length-change changes' p row set ∙ e

-- ---- the changes of all rows

module _ (clock slots words heads log changes : List ℕ) (x : Session) (from : ℕ)
    (ready : RowsReady clock slots words heads log changes x from) where
  abbrev sets : ℕ → Option ℕ → ℕ
  sets = new_cells slots words heads log changes (values_in clock) x.start.0

  pub rows_start : RowsStored sets x from changes changes 0 from
  unfolding put_changes tab
  rows_start = record { stored = refl; place = omega arith }

  module _ (changes' : List ℕ) (i p : ℕ) (s : RowsStored sets x from changes changes' i p) (q : p ≤ from + i) where
    pub row-ready : i < x.count → length changes' ≡ length changes → RowReady clock slots words heads log changes' x i p
    row-ready l e = record {
      clock-room = ready.clock-room;
      readable = search (ready.readable, arith);
      entry-low = omega (arith, ready.count_low);
      place-low = omega (arith, ready.places-low);
    }

    -- the changes up to the start are still there
    new-kept : i ≤ x.count → (row : ℕ) (b : Option ℕ)
        → new_cells slots words heads log changes' (values_in clock) x.start.0 row b ≡ sets row b
    unfolding new_cells
    new-kept l row b =
        let cs = row_changes sets (tab (entry_at x) i) in
        let low : from + length cs ≤ 2048 = omega (arith, s.place, q, l, ready.places-low) in
        let same : (j : ℕ) → j < from → change_at changes' j ≡ change_at changes j =
        λ j h. ap (λ (c : List ℕ). change_at c j) s.stored ∙ changes-before changes from cs low j h in
        ap₂ (λ (a : ℕ) (o : Option ℕ). toggled_in (toggled_in a o) b)
        (set-kept changes' changes from same 0 (end_at log x.start.0) row ready.start-before)
        (read_kept changes' changes from same slots words heads log (values_in clock) x.start.0 row ready.start-before)

    pub rows_more : (changes'' stored : List ℕ) (p' : ℕ) → i < x.count → (get_or x.at i 0 ≡ 65535 → ⊥) → changes'' ≡ stored
        → stored ≡ put_change changes' p (get_or x.at i 0) (new_cells slots words heads log changes' (values_in clock) x.start.0
        (get_or x.at i 0) (target_of (get_or x.to i 0)))
        → p' ≡ p + 1 → RowsStored sets x from changes changes'' (i + 1) p'
    rows_more changes'' stored p' l old y w u =
        let cs = row_changes sets (tab (entry_at x) i) in
        let row = get_or x.at i 0 in
        let b = target_of (get_or x.to i 0) in
        let one = length-append cs (record { row = row; flips = sets row b } ∷ []) in
        record {
          stored =
              rw (y, w, new-kept (omega arith) row b, s.stored, s.place, rows_row x i old sets)
              (sym (changes-snoc changes from cs (record { row = row; flips = sets row b })));
          place = u ∙ omega (arith, s.place, ap length (rows_row x i old sets), one);
        }

    pub rows-skip : (changes'' : List ℕ) (p' : ℕ) → get_or x.at i 0 ≡ 65535 → changes'' ≡ changes' → p' ≡ p
        → RowsStored sets x from changes changes'' (i + 1) p'
    rows-skip changes'' p' new w u = record {
      stored = rw (w, s.stored, rows_new x i new sets);
      place = rw (u, s.place, rows_new x i new sets);
    }

    pub rows_all : x.count ≤ i → i ≤ x.count → RowsStored sets x from changes changes' x.count p
    rows_all l h = let z : i ≡ x.count = omega arith in rw z at s

-- ---- the changes of the inserts

pub length-insert_cells : (n : ℕ) (vs : List ℕ) → length (insert_cells n vs) ≡ length vs
length-insert_cells n [] = refl
length-insert_cells n (v ∷ vs) = ap suc (length-insert_cells (n + 1) vs)

insert_cells-snoc : (n : ℕ) (vs : List ℕ) (v : ℕ)
    → insert_cells n (vs ++ (v ∷ [])) ≡ insert_cells n vs ++ (record { row = n + length vs; flips = toggled_in 0 (some v) } ∷ [])
insert_cells-snoc n [] v = let e : n ≡ n + 0 = omega arith in ap (λ (r : ℕ). record { row = r; flips = toggled_in 0 (some v) } ∷ []) e
insert_cells-snoc n (w ∷ vs) v =
    let e : n + 1 + length vs ≡ n + suc (length vs) = omega arith in rw (insert_cells-snoc (n + 1) vs v, e)

-- the first i entries have no more inserts than all
inserts-few : (x : Session) (i n : ℕ) → i ≤ n → length (inserts (tab (entry_at x) i)) ≤ length (inserts (tab (entry_at x) n))
inserts-few x i n h =
    let f = entry_at x in
    let q : inserts (tab f n) ≡ inserts (tab f i) ++ inserts (stretch f i n) =
    rw (tab-stretch f n, tab-stretch f i, ← stretch-join f 0 i n (omega arith) h) (inserts-append (stretch f 0 i) (stretch f i n)) in
    omega (arith, ap length q, length-append (inserts (tab f i)) (inserts (stretch f i n)))

module _ (changes : List ℕ) (x : Session) (from rows : ℕ) where
  pub inserts-start : InsertsStored x from rows changes changes 0 from rows
  unfolding put_changes tab
  inserts-start = record { stored = refl; place = omega arith; next_row = omega arith }

  module _ (changes' : List ℕ) (i p : ℕ) (row : Row) (s : InsertsStored x from rows changes changes' i p row.0) where
    abbrev sofar : List ℕ
    sofar = inserts (tab (entry_at x) i)

    pub insert-place : InsertsReady changes x from rows → i < x.count → get_or x.at i 0 ≡ 65535 → p < 2048
    insert-place ready l new =
        let more = inserts-few x (i + 1) x.count (omega arith) in
        let one = length-append sofar (get_or x.to i 0 ∷ []) in
        omega (arith, s.place, ready.places-low, more, ap length (inserts-new x i new), one)

    pub insert-row : InsertsReady changes x from rows → i < x.count → Fits w32 (row.0 + 1)
    insert-row ready l = omega (arith, s.next_row, ready.rows-low, ready.places-low, inserts-few x i x.count (omega arith))

    pub inserts-more : (changes'' stored : List ℕ) (p' v set : ℕ) (row' : Row) → get_or x.at i 0 ≡ 65535 → changes'' ≡ stored
        → stored ≡ put_change changes' p row.0 set → set ≡ toggled_in 0 (some v) → v ≡ get_or x.to i 0 → p' ≡ p + 1
        → row' ≡ record { 0 = row.0 + 1 } → InsertsStored x from rows changes changes'' (i + 1) p' row'.0
    inserts-more changes'' stored p' v set row' new y w e f u k =
        let to = get_or x.to i 0 in
        let one = length-append sofar (to ∷ []) in
        record {
          stored =
              rw (y, w, e, f, s.stored, s.place, s.next_row, inserts-new x i new, insert_cells-snoc rows sofar to)
              (sym (changes-snoc changes from (insert_cells rows sofar) _ ∙ rw length-insert_cells));
          place = u ∙ omega (arith, s.place, ap length (inserts-new x i new), one);
          next_row = ap (λ (q : Row). q.0) k ∙ omega (arith, s.next_row, ap length (inserts-new x i new), one);
        }

    pub inserts-skip : (changes'' : List ℕ) (p' : ℕ) (row' : Row) → (get_or x.at i 0 ≡ 65535 → ⊥) → changes'' ≡ changes' → p' ≡ p
        → row' ≡ row → InsertsStored x from rows changes changes'' (i + 1) p' row'.0
    inserts-skip changes'' p' row' old w u z = record {
      stored = rw (w, s.stored, inserts-row x i old);
      place = rw (u, s.place, inserts-row x i old);
      next_row = rw (z, s.next_row, inserts-row x i old);
    }

    pub inserts-all : x.count ≤ i → i ≤ x.count → changes' ≡ put_changes changes from (insert_cells rows (inserts (entries x)))
    inserts-all l h = let z : i ≡ x.count = omega arith in (rw z at s).stored
