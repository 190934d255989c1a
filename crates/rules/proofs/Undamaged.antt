-- Every call keeps the tables undamaged, from whatever undamaged tables it is made.
use mathlib.Core.Path.{◌≡◌, refl, sym, ◌∙◌}
use mathlib.Core.Bool.{true, false, true≢false}
use mathlib.Core.Option.{Option, none, some}
use mathlib.Core.List.{List, [], ◌∷◌}
use mathlib.Core.Logic.{⊎_elim}
use Prim.Native.Nat.{ℕ, suc, ◌+◌, ◌≤◌, ◌<◌, ◌^◌}
use native.Mathlib.Omega.{arith}
use borrow.Author.Tests.{leb-false, ltb-false}
use lib.ListN.{length, set, length-append, length-map, length-set, length-replicate, get_or-eq_default}
use lib.Seq.{get_or-set_same, get_or-set_other}
use Rattle.bits.proofs.BitLaws.{bit-of-zero, clear-lt}
use Rattle.bits.proofs.Cases.{eq-cases, lt-cases}
use Rattle.bits.proofs.TabLaws.{length-tab, get_or-tab}
use Rattle.bits.specs.Rows.{rows_below}
use Rattle.bits.proofs.RowLaws.{rows-mem}
use Rattle.rules.specs.Limits.{max_values, max_rows, max_slots, max_records, max_changes, max_sessions}
use Rattle.rules.specs.State.{Record, Chain, Entry, Session, free, opened, State, chain, session, is_free, start_of, rows_of, list_of}
use Rattle.rules.specs.Log.{stamp_of, grown, all_changes, flip_set}
use Rattle.rules.specs.Versions.{read_at}
use Rattle.rules.specs.Lists.{inserts}
use Rattle.rules.specs.Commit.{new_set, row_changes, insert_changes, commit_changes}
use Rattle.rules.specs.Tidy.{moves, moved, tidy_change, tidy_changes}
use Rattle.rules.specs.Calls.{Column, Call, create, begin, query, span, read, update, delete, insert, commit, tidy, abort}
use Rattle.rules.specs.Refusals.{bad_column, tests, refusal, AllFail}
use Rattle.rules.specs.Step.{first_chain, created, seated, beginning, relisted, rows_with, commit_record, committing, tidy_record}
use Rattle.rules.specs.Step.{tidy_version, tidying, effect, unless, step, run}
use Rattle.rules.proofs.Invariant.{ChangesFit, Falls, VectorsFit, Within, SessionFits, Undamaged}
use Rattle.rules.proofs.Small.{clash, same-everywhere, pair_set}
use Rattle.rules.proofs.LogLaws.{stamp-empty, stamp-grown, all_changes-grown, rows_at-new, fits-grown}
use Rattle.rules.proofs.ListLaws.{Kept, put-kept, insert-kept}
use Rattle.rules.proofs.Agrees.{good-column}
use Rattle.rules.proofs.Tests.{all-fail}
use Rattle.rules.proofs.Fits.{no-changes, count_low, count-now, changes-append, flip_set-low, flip_set-beyond, queried-beyond}
use Rattle.rules.proofs.Fits.{smallest-low, toggled-low, rows_fit, inserts-fit, length-made, map-fit, falls-more, falls-cons}
use Rattle.rules.proofs.Fits.{vectors-grown, session-grown}

-- ---- a list changed at one place

chain-set : (P : Chain → Type 0) (cs : List Chain) (v : ℕ) (new : Chain) (C : ℕ) → v < length cs → P new
    → ((u : ℕ) → u < C → P (chain cs u))
    → (u : ℕ) → u < C → P (chain (set cs v new) u)
chain-set P cs v new C l p h u k =
    ⊎_elim (λ (e : u ≡ v). rw (e, get_or-set_same cs v new [] l) p) (λ (d : u ≡ v → ⊥). rw (get_or-set_other cs v u new [] d) (h u k))
    (eq-cases u v)

-- ---- create

few : max_values ≤ max_slots
unfolding max_values max_slots
few = omega arith

pub created-undamaged : (C : ℕ) (col : Column) → bad_column C col ≡ false → Undamaged (created C col)
unfolding created
created-undamaged C col good =
    let g = good-column C col good in
    record {
      values_low = g.some-value;
      values-high = g.values-fit;
      rows-high = g.column_fits;
      first-high = g.column_fits;
      stamp-high = omega (arith, stamp-empty);
      slots-low = omega arith;
      slots-high = omega (arith, few, g.values-fit);
      changes-high = omega (arith, no-changes);
      log-fits = refl;
      chains-are = length-tab (first_chain col) C;
      chains-fall = λ v l. rw (get_or-tab (first_chain col) C v [] l) (omega (arith, stamp-empty), refl);
      vectors-fit = λ v l. rw (get_or-tab (first_chain col) C v [] l) (λ r k. rw (get_or-eq_default col none k), tt);
      sessions-are = length-replicate max_sessions free;
      sessions-fit = λ i. rw (same-everywhere max_sessions free i) tt;
    }

module _ (st : State) (w : Undamaged st) where
  -- ---- one session changed

  seated-undamaged : (i : ℕ) (x : Session) → SessionFits st.values st.first st.log x → Undamaged (seated st i x)
  seated-undamaged i x h =
      let ss = st.sessions in
      let a : length (set ss i x) ≡ max_sessions = length-set ss i x ∙ w.sessions-are in
      let b = pair_set (λ (y z : Session). SessionFits st.values st.first st.log y) free free ss ss refl w.sessions-fit i x x
      h in
      search

  begin-undamaged : (i : ℕ) (x : Session) → Undamaged (beginning st i x).0
  begin-undamaged i free =
      seated-undamaged i _
      record {
        start-old = omega arith;
        start-rows = sym (count-now st.values st.first st.rows st.log w.log-fits);
        short = omega arith;
        once = tt;
        fit = tt;
      }
  begin-undamaged i (opened s n es) = w

  relist-undamaged : (i : ℕ) (x : Session) (es : List Entry) → SessionFits st.values st.first st.log x → is_free x ≡ false
      → Kept st.values (rows_of x) (list_of x) es → Undamaged (relisted st i x es).0
  relist-undamaged i free es h b k = absurd (true≢false b)
  relist-undamaged i (opened s n xs) es h b k =
      seated-undamaged i _ (record {
        start-old = h.start-old;
        start-rows = h.start-rows;
        short = k.short h.short;
        once = k.once h.once;
        fit = k.fits h.fit;
      })

  -- ---- one record more, with these versions and slots

  grown-undamaged : (z : Record) (chains : List Chain) (slots : ℕ) → st.rows ≤ z.rows → z.rows ≤ max_rows → stamp_of st.log < max_records
      → length (all_changes st.log) + length z.changes ≤ max_changes → ChangesFit st.values z.rows z.changes
      → st.slots ≤ slots → slots ≤ max_slots → length chains ≡ st.values
      → ((v : ℕ) → v < st.values → Falls (suc (suc (stamp_of st.log))) (chain chains v))
      → ((v : ℕ) → v < st.values → VectorsFit st.first (grown st.log z) (chain chains v))
      → Undamaged (record {
        values = st.values;
        first = st.first;
        rows = z.rows;
        log = grown st.log z;
        chains = chains;
        slots = slots;
        sessions = st.sessions;
      })
  grown-undamaged z chains slots up rows-high stamp few-changes fit more slots-high chains-are falls vectors-fit =
      let a = w.sessions-are in
      let b : (j : ℕ) → SessionFits st.values st.first (grown st.log z) (session st j) =
      λ j. session-grown st.values st.first st.log z (session st j) (w.sessions-fit j) in
      let c : stamp_of (grown st.log z) ≤ max_records = rw (stamp-grown st.log z) stamp in
      let d : length (all_changes (grown st.log z)) ≤ max_changes = rw (all_changes-grown st.log z, length-append) few-changes in
      let e = fits-grown st.values st.first st.log z st.rows w.log-fits up fit in
      let f : (v : ℕ) → v < st.values → Falls (suc (stamp_of (grown st.log z))) (chain chains v) = rw (stamp-grown st.log z) falls in
      let g : st.values ≤ slots = omega (arith, w.slots-low) in
      search

  -- the versions there are
  old-falls : (v : ℕ) → v < st.values → Falls (suc (suc (stamp_of st.log))) (chain st.chains v)
  old-falls v k = falls-more _ _ (chain st.chains v) (omega arith) (w.chains-fall v k)

  old-vectors : (z : Record) (v : ℕ) → v < st.values → VectorsFit st.first (grown st.log z) (chain st.chains v)
  old-vectors z v k = vectors-grown st.first _ st.log z (chain st.chains v) (omega arith) (w.chains-fall v k) (w.vectors-fit v k)

module _ (st : State) (w : Undamaged st) where
  -- ---- commit

  new_set-low : (k s r : ℕ) (t : Option ℕ) → Within st.values t → new_set st.values st.log st.chains k s r t < 2 ^ st.values
  unfolding read_at
  new_set-low k s r t h =
      toggled-low st.values _ t
      (toggled-low st.values _ (read_at st.values st.log st.chains s r)
      (flip_set-low st.values st.first st.rows st.log w.log-fits k r) (smallest-low st.values _)) h

  commit-undamaged : (i : ℕ) (x : Session) → SessionFits st.values st.first st.log x → is_free x ≡ false
      → rows_with st (list_of x) ≤ max_rows → stamp_of st.log < max_records → length (all_changes st.log) + length (list_of x) ≤ max_changes
      → Undamaged (committing st i (start_of x) (list_of x))
  unfolding commit_changes
  commit-undamaged i free h b m q c = absurd (true≢false b)
  commit-undamaged i (opened s n es) h b m q c =
      let C = st.values in
      let z = commit_record st s es in
      let g = new_set C st.log st.chains s s in
      let l : n ≤ st.rows = omega (arith, h.start-rows, count_low C st.first st.rows st.log s w.log-fits) in
      seated-undamaged _
      (grown-undamaged st w z st.chains st.slots (omega arith) m q (rw (length-made g st.rows es) c)
      (changes-append C (rows_with st es) (row_changes g es) (insert_changes st.rows (inserts es))
      (rows_fit C n (rows_with st es) g es (new_set-low s s) (omega arith) h.fit)
      (inserts-fit C n (rows_with st es) es st.rows h.fit (omega arith)))
      (omega arith) w.slots-high w.chains-are (old-falls st w) (old-vectors st w z)) i free tt

  -- ---- tidy

  moved_row : (s v r : ℕ) → moves st.log s v r ≡ true → r < st.rows
  moved_row s v r t =
      ⊎_elim (λ (k : r < st.rows). k)
      (λ (k : st.rows ≤ r).
      absurd (clash t (rw (flip_set-beyond st.values st.first st.rows st.log w.log-fits s r k) (bit-of-zero v))))
      (lt-cases r st.rows)

  tidy-undamaged : (s v : ℕ) → v < st.values → stamp_of st.log < max_records
      → length (all_changes st.log) + length (moved st.log s v) ≤ max_changes → st.slots < max_slots → Undamaged (tidying st s v)
  unfolding tidy_changes moved
  tidy-undamaged s v h q c y =
      let C = st.values in
      let z = tidy_record st s v in
      let new = tidy_version st s v ∷ chain st.chains v in
      let l : v < length st.chains = rw w.chains-are h in
      grown-undamaged st w z (set st.chains v new) (suc st.slots) (omega arith) w.rows-high q (rw length-map c)
      (map-fit C st.rows (tidy_change st.log s v) (rows_below (moves st.log s v) max_rows)
      (λ r k. (
        moved_row s v r (rows-mem (moves st.log s v) max_rows r k).1,
        clear-lt C (flip_set st.log s r) v (flip_set-low C st.first st.rows st.log w.log-fits s r) h,
      )))
      (omega arith) y (length-set st.chains v new ∙ w.chains-are)
      (chain-set (Falls (suc (suc (stamp_of st.log)))) st.chains v new C l
      (falls-cons _ (tidy_version st s v) (chain st.chains v) (omega arith) (w.chains-fall v h)) (old-falls st w))
      (chain-set (VectorsFit st.first (grown st.log z)) st.chains v new C l (
        λ r k. queried-beyond C st.first st.rows st.log w.log-fits (chain st.chains v) s v r (w.vectors-fit v h)
            (rw (rows_at-new st.first st.log z) at k),
        old-vectors st w z v h,
      ) (old-vectors st w z))

  -- ---- any call

  effect-undamaged : (c : Call) → AllFail (tests st c) → Undamaged (effect st c).0
  unfolding tests effect
  effect-undamaged (create C col) p = created-undamaged C col p.0
  effect-undamaged (begin i) p = begin-undamaged st w i (session st i)
  effect-undamaged (query i v t n) p = w
  effect-undamaged (span i a b n) p = w
  effect-undamaged (read i r) p = w
  effect-undamaged (update i r v) p =
      let x = session st i in
      relist-undamaged st w i x _ (w.sessions-fit i) p.1.0
      (put-kept st.values (rows_of x) (list_of x) r (some v) (leb-false _ _ p.1.1.1.0) (leb-false _ _ p.1.1.0)
      p.1.1.1.1.1.0)
  effect-undamaged (delete i r) p =
      let x = session st i in
      relist-undamaged st w i x _ (w.sessions-fit i) p.1.0
      (put-kept st.values (rows_of x) (list_of x) r none (leb-false _ _ p.1.1.0) tt p.1.1.1.1.0)
  effect-undamaged (insert i v) p =
      let x = session st i in
      relist-undamaged st w i x _ (w.sessions-fit i) p.1.0
      (insert-kept st.values (rows_of x) (list_of x) v (leb-false _ _ p.1.1.0) p.1.1.1.0)
  effect-undamaged (commit i) p =
      commit-undamaged i (session st i) (w.sessions-fit i) p.1.0 (ltb-false _ _ p.1.1.1.1.0)
      (leb-false _ _ p.1.1.1.1.1.0)
      (ltb-false _ _ p.1.1.1.1.1.1.0)
  effect-undamaged (tidy i v) p =
      tidy-undamaged (start_of (session st i)) v (leb-false _ _ p.1.1.0) (leb-false _ _ p.1.1.1.1.1.0)
      (ltb-false _ _ p.1.1.1.1.1.1.0) (leb-false _ _ p.1.1.1.1.1.1.1.0)
  effect-undamaged (abort i) p = seated-undamaged st w i free tt

  pub step-undamaged : (c : Call) → Undamaged (step st c).0
  unfolding step
  step-undamaged c = go (refusal st c) refl
    where
      go : (q : Option ℕ) → refusal st c ≡ q → Undamaged (unless st q (effect st c)).0
      go none e = effect-undamaged c (all-fail (tests st c) e)
      go (some n) e = w

-- a run of calls from undamaged tables leaves them undamaged
pub run-undamaged : (cs : List Call) (st : State) → Undamaged st → Undamaged (run st cs)
unfolding run
run-undamaged [] st w = w
run-undamaged (c ∷ cs) st w = run-undamaged cs (step st c).0 (step-undamaged st w c)

-- after any run from a column that create accepts, no condition of "Damaged tables" fails
pub every-run-undamaged : (C : ℕ) (col : Column) → bad_column C col ≡ false → (cs : List Call) → Undamaged (run (created C col) cs)
every-run-undamaged C col good cs = run-undamaged cs (created C col) (created-undamaged C col good)
