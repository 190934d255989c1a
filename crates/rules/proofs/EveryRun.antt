-- Demand 3 over every run: what each accepted call answers is what the observer says, a commit is refused for conflict exactly
-- where the observer says so, and so each call of any run is right, in the plain observer's words.
use mathlib.Core.Path.{◌≡◌, refl, sym, ap, ap₂, ◌∙◌}
use mathlib.Core.Bool.{Bool, true, false, true≢false, false≢true, cond}
use mathlib.Core.Option.{Option, none, some, none-ne-some}
use mathlib.Core.List.{List, [], ◌∷◌, Memᴰ, map-map, map-id}
use mathlib.Core.Logic.{◌⊎◌, inl, inr, ◌↔◌}
use Prim.Native.Nat.{ℕ, suc, ◌≤◌, ◌<◌, ◌+◌}
use native.Mathlib.Omega.{arith}
use borrow.Author.Tests.{eqb-true, eq-eqb, lt-leb, leb-false}
use lib.Dec.{leb, ltb}
use lib.ListN.{length, drop, get_or-eq_default}
use lib.Seq.{get_or-set_same}
use Rattle.bits.proofs.AnyLaws.{any_at, any_of}
use Rattle.bits.proofs.Cases.{lt-cases}
use Rattle.bits.proofs.RowLaws.{rows-mem, mem-rows, rows-ascend}
use Rattle.rules.specs.Limits.{max_rows, max_sessions, max_records, max_changes}
use Rattle.rules.specs.State.{Entry, Session, free, opened, State, chain, session, is_free, start_of, rows_of, list_of, Change}
use Rattle.rules.specs.Log.{stamp_of, above, changes_of, names, all_changes}
use Rattle.rules.specs.Versions.{queried, queried_rows, spanned, spanned_rows, read_at}
use Rattle.rules.specs.Lists.{lists, inserts}
use Rattle.rules.specs.Commit.{conflicts}
use Rattle.rules.specs.Tidy.{moved, moves, tidy_change, tidy_changes}
use Rattle.rules.specs.Calls.{Column, cell, holds, Call, create, begin, query, span, read, update, delete, insert, commit}
use Rattle.rules.specs.Calls.{tidy, abort, Answer, refused, ok}
use Rattle.rules.specs.Refusals.{is_empty, bad_column, tests, refusal, AllFail}
use Rattle.rules.specs.Step.{beginning, querying, created, relisted, effect, unless, step, transcript}
use Rattle.rules.specs.Plain.{Wish, hold, grow, is_wished, count_wished, Visitor, away, sitting, wishes_of, Observer, visitor}
use Rattle.rules.specs.Plain.{column_at, holding, moved_by, column_now, started, accepts, watches}
use Rattle.rules.specs.Demand.{Numbers, RightQuery, HoldsOneOf, Spans, Reads, begins_at, Overtaken, tidies_at, Right, AllRight}
use Rattle.rules.specs.Moved.{MovesRows}
use Rattle.rules.proofs.Small.{clash}
use Rattle.rules.proofs.PlainLaws.{touched, touched-means, Same, same_lists}
use Rattle.rules.proofs.Agrees.{columns-fit, Agrees, queried-is, queried-rows, flip-count, moves-none, read_is}
use Rattle.rules.proofs.Committing.{conflicts-means, fits-row}
use Rattle.rules.proofs.Run.{Seated, Sits, Inv, moved-is, start-inv, accepted, step_keeps}
use Rattle.rules.proofs.Tests.{all-fail}

-- ---- the rows that hold a value

holds-means : (o : Option ℕ) (v : ℕ) → holds o v ≡ true → o ≡ some v
holds-means none v e = absurd (false≢true e)
holds-means (some a) v e = ap some (eqb-true a v e)

-- a row that holds something is in the column
cell-low : (col : Column) (v r : ℕ) → cell col r ≡ some v → r < length col
cell-low col v r e = go (lt-cases r (length col))
  where
    go : (r < length col) ⊎ (length col ≤ r) → r < length col
    go (inl l) = l
    go (inr l) = absurd (none-ne-some v (sym (get_or-eq_default col none l) ∙ e))

holding-exactly : (col : Column) (v r : ℕ) → Memᴰ r (holding col v) ↔ (cell col r ≡ some v)
holding-exactly col v r =
    let has : ℕ → Bool = λ q. holds (cell col q) v in (
      λ m. holds-means (cell col r) v (rows-mem has (length col) r m).1,
      λ e. mem-rows has (length col) r (cell-low col v r e) (rw e (eq-eqb v v refl)),
    )

module _ (st : State) (o : Observer) (inv : Inv st o) where
  -- a session and its visitor now
  abbrev SitsNow : Session → Visitor → Type 0
  SitsNow = Sits st.values o.column o.events

  -- ---- query and read

  pub query-lists : (i v t : ℕ) (x : Session) (y : Visitor) → SitsNow x y → visitor o i ≡ y → is_free x ≡ false → v < st.values
      → RightQuery o i v t (querying st (start_of x) v t)
  query-lists i v t free y q e b l = absurd (true≢false b)
  query-lists i v t (opened s n es) away q e b l = absurd q
  query-lists i v t (opened s n es) (sitting k ws) q e b l =
      record {
        since = s;
        own = ws;
        is_open = e ∙ ap (λ (m : ℕ). sitting m ws) q.at;
        rows_are = rows;
        exactly = λ r. rw rows (holding-exactly (column_at o s) v r);
        ascending = rw rows (rows-ascend (λ r. holds (cell (column_at o s) r) v) (length (column_at o s)));
        flips-are =
            flip-count st.log (chain st.chains v) v o.column o.events a s q.old fit
            ∙ ap length (moved-is st o inv s v q.old l);
        due-is = refl;
      }
    where
      a : Agrees st.log (chain st.chains v) v o.column o.events
      a = inv.core.agrees v l

      fit : length (column_at o s) ≤ max_rows
      fit = columns-fit st.values o.column st.rows st.log o.events inv.core.logged s

      rows : queried_rows st.log (chain st.chains v) s v ≡ holding (column_at o s) v
      rows = queried-rows st.log (chain st.chains v) v o.column o.events a s q.old fit

  -- K1: a row is in the span of some values at s exactly if it holds one of them after the first s events
  module _ (s a b : ℕ) (old : s ≤ length o.events) (low : b < st.values) (r : ℕ) where
    abbrev has : ℕ → Bool
    has v = queried st.log (chain st.chains v) s v r

    has-is : (v : ℕ) → v < st.values → has v ≡ holds (cell (column_at o s) r) v
    has-is v l = queried-is st.log (chain st.chains v) v o.column o.events (inv.core.agrees v l) s r old

    spanned-exactly : Memᴰ r (spanned_rows st.log st.chains s a b) ↔ HoldsOneOf (column_at o s) a b r
    unfolding spanned
    spanned-exactly = (
      λ m. let f = any_at has a (suc b) (rows-mem (spanned st.log st.chains s a b) max_rows r m).1 in (
        f.0,
        f.1,
        omega (arith, f.2),
        holds-means (cell (column_at o s) r) f.0 (sym (has-is f.0 (omega (arith, f.2, low))) ∙ f.3),
      ),
      λ h. mem-rows (spanned st.log st.chains s a b) max_rows r
          (omega (
            arith,
            cell-low (column_at o s) h.0 r h.3,
            columns-fit st.values o.column st.rows st.log o.events inv.core.logged s,
          ))
          (any_of has a (suc b) h.0 h.1 (omega (arith, h.2))
          (has-is h.0 (omega (arith, h.2, low)) ∙ rw h.3 (eq-eqb h.0 h.0 refl))),
    )

  pub span-spans : (i a b : ℕ) (x : Session) (y : Visitor) → SitsNow x y → visitor o i ≡ y → is_free x ≡ false → b < st.values
      → Spans o i a b (spanned_rows st.log st.chains (start_of x) a b)
  span-spans i a b free y q e f l = absurd (true≢false f)
  span-spans i a b (opened s n es) away q e f l = absurd q
  span-spans i a b (opened s n es) (sitting k ws) q e f l =
      record {
        since = s;
        own = ws;
        is_open = e ∙ ap (λ (m : ℕ). sitting m ws) q.at;
        exactly = spanned-exactly s a b q.old l;
        ascending = rows-ascend (spanned st.log st.chains s a b) max_rows;
      }

  pub read-reads : (i r : ℕ) (x : Session) (y : Visitor) → SitsNow x y → visitor o i ≡ y → is_free x ≡ false → r < rows_of x
      → Reads o i r (read_at st.values st.log st.chains (start_of x) r)
  read-reads i r free y q e b l = absurd (true≢false b)
  read-reads i r (opened s n es) away q e b l = absurd q
  read-reads i r (opened s n es) (sitting k ws) q e b l =
      record {
        since = s;
        own = ws;
        is_open = e ∙ ap (λ (m : ℕ). sitting m ws) q.at;
        in-column = omega (arith, q.count);
        cell-is = read_is st.values o.column st.rows st.log st.chains o.events inv.core s q.old r;
      }

  -- ---- the calls that answer numbers

  pub begin-numbers : (i : ℕ) (x : Session) (y : Visitor) → SitsNow x y → Numbers (begins_at o y) (beginning st i x).1
  begin-numbers i free away q = ap₂ (λ (a b : ℕ). a ∷ b ∷ []) inv.core.logged.pace inv.core.logged.rows-now
  begin-numbers i free (sitting k ws) q = absurd q
  begin-numbers i (opened s n es) away q = absurd q
  begin-numbers i (opened s n es) (sitting k ws) q = rw q.at (ap (λ (m : ℕ). s ∷ m ∷ []) q.count)

  pub tidy-numbers : (v : ℕ) (x : Session) (y : Visitor) → SitsNow x y → is_free x ≡ false → v < st.values
      → suc (stamp_of st.log) ∷ length (moved st.log (start_of x) v) ∷ [] ≡ tidies_at o v y
  tidy-numbers v free y q b l = absurd (true≢false b)
  tidy-numbers v (opened s n es) away q b l = absurd q
  tidy-numbers v (opened s n es) (sitting k ws) q b l =
      rw q.at (ap₂ (λ (a b : ℕ). a ∷ b ∷ []) (ap suc inv.core.logged.pace) (ap length (moved-is st o inv s v q.old l)))

  -- a session wishes for as many rows as it lists
  sits-count : (x : Session) (y : Visitor) → SitsNow x y → length (list_of x) ≡ count_wished (wishes_of y)
  sits-count free away q = refl
  sits-count free (sitting k ws) q = absurd q
  sits-count (opened s n es) away q = absurd q
  sits-count (opened s n es) (sitting k ws) q = sym q.same.count

  pub list_count : (i : ℕ) → length (list_of (session st i)) ≡ count_wished (wishes_of (visitor o i))
  list_count i = sits-count (session st i) (visitor o i) (inv.sat i)

  -- ---- conflict

  -- the session behind a visitor
  pub behind : (k : ℕ) (ws : List Wish) (x : Session) (y : Visitor) → SitsNow x y → y ≡ sitting k ws
      → (s : ℕ) × (n : ℕ) × (es : List Entry) × (x ≡ opened s n es) × Seated st.values o.column o.events s n es k ws
  behind k ws free away q e = absurd (let z : ◌≡◌ {A = ℕ} 0 1 = cc in omega arith)
  behind k ws free (sitting m us) q e = absurd q
  behind k ws (opened s n es) away q e = absurd q
  behind k ws (opened s n es) (sitting m us) q e =
      let a : m ≡ k = cc in
      let b : us ≡ ws = cc in
      (s, n, es, refl, rw (← a, ← b) q)

  -- a session that is open is one of the table
  pub open-low : (i : ℕ) → is_free (session st i) ≡ false → leb max_sessions i ≡ false
  open-low i b = go (lt-cases i max_sessions)
    where
      go : (i < max_sessions) ⊎ (max_sessions ≤ i) → leb max_sessions i ≡ false
      go (inl l) = lt-leb max_sessions i l
      go (inr l) = absurd (clash (ap is_free (get_or-eq_default st.sessions free {n = i} (omega (arith, inv.sessions-are)))) b)

  -- the rules' conflict is the observer's
  pub conflict-plain : (s n : ℕ) (es : List Entry) (k : ℕ) (ws : List Wish) → Seated st.values o.column o.events s n es k ws
      → (conflicts st.log s es ≡ true) ↔ Overtaken (drop k o.events) ws
  conflict-plain s n es k ws q = rw q.at (to, from)
    where
      seen : (r : ℕ) → lists es r ≡ true → names (changes_of (above st.log s)) r ≡ touched (drop s o.events) r
      seen r l = inv.core.logged.seen s r q.old (rw (← q.count) (fits-row st.values n es r q.fits l))

      to : conflicts st.log s es ≡ true → Overtaken (drop s o.events) ws
      to e =
          let p = (conflicts-means st.log s es).0 e in
          let t = (touched-means (drop s o.events) p.0).0 (sym (seen p.0 p.1) ∙ p.2) in
          (p.0, t.0, same_lists es ws q.same p.0 ∙ p.1, t.1, t.2)

      from : Overtaken (drop s o.events) ws → conflicts st.log s es ≡ true
      from p =
          let l : lists es p.0 ≡ true = sym (same_lists es ws q.same p.0) ∙ p.2 in
          (conflicts-means st.log s es).1 (p.0, l, seen p.0 l ∙ (touched-means (drop s o.events) p.0).1 (p.1, p.3, p.4))

  -- something wished for is something listed
  pub not-empty : (es : List Entry) (w : Wish) (ws : List Wish) → Same es (w ∷ ws) → is_empty es ≡ false
  not-empty (e ∷ es) w ws q = refl
  not-empty [] (hold r t) ws q = absurd (clash {b = is_wished (hold r t ∷ ws) r} (rw (eq-eqb r r refl)) (same_lists [] (hold r t ∷ ws) q r))
  not-empty [] (grow v) ws q = let z : ◌≡◌ {A = ℕ} 0 1 = cc q.adds in absurd (omega arith)

-- ---- the refusals of a commit that has something listed: 12 where there is a conflict, and no other gives 12

other-number : (n : ℕ) → (n ≡ 12 → ⊥) → refused n ≡ refused 12 → ⊥
other-number n d e = d cc

-- the tests from 12 on
twelve : (st : State) (b₁₂ b₁₅ b₁₆ b₁₇ : Bool) (x : State) (ns : List ℕ)
    → ((unless st (cond b₁₂ (some 12) (cond b₁₅ (some 15) (cond b₁₆ (some 16) (cond b₁₇ (some 17) none)))) (x, ok ns)).1 ≡ refused 12)
    ↔ (b₁₂ ≡ true)
twelve st true b₁₅ b₁₆ b₁₇ x ns = (λ e. refl, λ e. refl)
twelve st false true b₁₆ b₁₇ x ns = (λ e. absurd (other-number 15 (omega arith) e), λ e. absurd (false≢true e))
twelve st false false true b₁₇ x ns = (λ e. absurd (other-number 16 (omega arith) e), λ e. absurd (false≢true e))
twelve st false false false true x ns = (λ e. absurd (other-number 17 (omega arith) e), λ e. absurd (false≢true e))
twelve st false false false false x ns = (λ e. absurd (let z : ◌≡◌ {A = ℕ} 0 1 = cc in omega arith), λ e. absurd (false≢true e))

module _ (st : State) (o : Observer) (inv : Inv st o) where
  -- what holds of every refusal, and of the answer where each test failed, holds of the answer
  judged : (c : Call) (P : Answer → Type 0) → ((n : ℕ) → P (refused n)) → (AllFail (tests st c) → P (effect st c).1) → P (step st c).1
  unfolding step
  judged c P refuses accept = go (refusal st c) refl
    where
      go : (q : Option ℕ) → refusal st c ≡ q → P (unless st q (effect st c)).1
      go none e = accept (all-fail (tests st c) e)
      go (some n) e = refuses n

  -- a changed list's length is what the session then wishes for
  relisted-count : (i : ℕ) (es : List Entry) (p : Observer) → leb max_sessions i ≡ false → Inv (relisted st i (session st i) es).0 p
      → length es ∷ [] ≡ count_wished (wishes_of (visitor p i)) ∷ []
  relisted-count i es p b q =
      let l : i < length st.sessions = omega (arith, leb-false max_sessions i b, inv.sessions-are) in
      let x : Session = opened (start_of (session st i)) (rows_of (session st i)) es in
      ap (λ (n : ℕ). n ∷ []) (sym (ap (λ (y : Session). length (list_of y)) (get_or-set_same st.sessions i x free l))
      ∙ list_count (relisted st i (session st i) es).0 p q i)

  -- commit's numbers, where it is accepted
  commit-numbers : (i : ℕ) → AllFail (tests st (commit i))
      → Numbers (suc (length o.events) ∷ length (column_now (accepts o (commit i))) ∷ []) (effect st (commit i)).1
  unfolding effect watches
  commit-numbers i p =
      ap₂ (λ (a b : ℕ). a ∷ b ∷ []) (ap suc inv.core.logged.pace) (accepted st o inv (commit i) p).core.logged.rows-now

  -- an open session with something listed is refused by 12 exactly if the rules see a conflict
  commit-answer : (i : ℕ) → leb max_sessions i ≡ false → is_free (session st i) ≡ false → is_empty (list_of (session st i)) ≡ false
      → ((step st (commit i)).1 ≡ refused 12) ↔ (conflicts st.log (start_of (session st i)) (list_of (session st i)) ≡ true)
  unfolding step tests effect
  commit-answer i a b c =
      let x = session st i in
      rw (a, b, c)
      (twelve st (conflicts st.log (start_of x) (list_of x)) (ltb max_rows (st.rows + length (inserts (list_of x))))
      (leb max_records (stamp_of st.log))
      (ltb max_changes (length (all_changes st.log) + length (list_of x))) _ _)

  -- and that is what the observer sees
  commit-conflict : (i k : ℕ) (w : Wish) (ws : List Wish) → visitor o i ≡ sitting k (w ∷ ws)
      → ((step st (commit i)).1 ≡ refused 12) ↔ Overtaken (drop k o.events) (w ∷ ws)
  commit-conflict i k w ws e =
      let p = behind st o inv k (w ∷ ws) (session st i) (visitor o i) (inv.sat i) e in
      let b : is_free (session st i) ≡ false = rw p.3 in
      let c : is_empty (list_of (session st i)) ≡ false = rw p.3 (not-empty st o inv p.2 w ws p.4.same) in
      let a = rw p.3 at (commit-answer i (open-low st o inv i b) b c) in
      let q = conflict-plain st o inv p.0 p.1 p.2 k (w ∷ ws) p.4 in
      (λ h. q.0 (a.0 h), λ h. a.1 (q.1 h))

  -- each call is right
  pub right : (c : Call) → Right o c (step st c).1
  unfolding tests effect watches
  right (create C col) = judged (create C col) (Right o (create C col)) (λ n. tt) (λ p. refl)
  right (begin i) = judged (begin i) (Right o (begin i)) (λ n. tt) (λ p. begin-numbers st o inv i (session st i) (visitor o i) (inv.sat i))
  right (query i v t n) =
      judged (query i v t n) (Right o (query i v t n)) (λ m. tt)
      (λ p. query-lists st o inv i v t (session st i) (visitor o i) (inv.sat i) refl p.1.0 (leb-false _ _ p.1.1.0))
  right (span i a b n) =
      judged (span i a b n) (Right o (span i a b n)) (λ m. tt)
      (λ p. span-spans st o inv i a b (session st i) (visitor o i) (inv.sat i) refl p.1.0 (leb-false _ _ p.1.1.1.0))
  right (read i r) =
      judged (read i r) (Right o (read i r)) (λ n. tt)
      (λ p. read-reads st o inv i r (session st i) (visitor o i) (inv.sat i) refl p.1.0 (leb-false _ _ p.1.1.0))
  right (update i r v) =
      judged (update i r v) (Right o (update i r v)) (λ n. tt)
      (λ p. relisted-count i _ (accepts o (update i r v)) p.0 (accepted st o inv (update i r v) p))
  right (delete i r) =
      judged (delete i r) (Right o (delete i r)) (λ n. tt)
      (λ p. relisted-count i _ (accepts o (delete i r)) p.0 (accepted st o inv (delete i r) p))
  right (insert i v) =
      judged (insert i v) (Right o (insert i v)) (λ n. tt)
      (λ p. relisted-count i _ (accepts o (insert i v)) p.0 (accepted st o inv (insert i v) p))
  right (commit i) = record { numbers = judged (commit i) (Numbers _) (λ n. tt) (commit-numbers i); conflict = commit-conflict i }
  right (tidy i v) =
      judged (tidy i v) (Right o (tidy i v)) (λ n. tt)
      (λ p. tidy-numbers st o inv v (session st i) (visitor o i) (inv.sat i) p.1.0 (leb-false _ _ p.1.1.0))
  right (abort i) = judged (abort i) (Right o (abort i)) (λ n. tt) (λ p. ap (λ (n : ℕ). n ∷ []) (list_count st o inv i))

  -- ---- what an accepted tidy moves

  -- a row that moves is one of the limit's
  moves-low : (k v r : ℕ) → k ≤ length o.events → v < st.values → moves st.log k v r ≡ true → r < max_rows
  moves-low k v r l w e = go (lt-cases r (length (column_at o k)))
    where
      go : (r < length (column_at o k)) ⊎ (length (column_at o k) ≤ r) → r < max_rows
      go (inl m) = omega (arith, columns-fit st.values o.column st.rows st.log o.events inv.core.logged k)
      go (inr m) =
          absurd (clash e (moves-none st.log (chain st.chains v) v o.column o.events (inv.core.agrees v w) k r l m))

  -- the rows that the observer says move are those whose set has v
  moved-exactly : (k v : ℕ) → k ≤ length o.events → v < st.values
      → (r : ℕ) → Memᴰ r (moved_by o k v) ↔ (moves st.log k v r ≡ true)
  unfolding moved
  moved-exactly k v l w r =
      rw (← (moved-is st o inv k v l w))
      (λ m. (rows-mem (moves st.log k v) max_rows r m).1, λ e. mem-rows (moves st.log k v) max_rows r (moves-low k v r l w e) e)

  moves-seated : (i v : ℕ) (x : Session) (y : Visitor) → Sits st.values o.column o.events x y → session st i ≡ x → visitor o i ≡ y
      → refusal st (tidy i v) ≡ none → MovesRows st o i v
  unfolding step tests effect tidy_changes
  moves-seated i v free y q e f h = absurd (clash (ap is_free e) (all-fail (tests st (tidy i v)) h).1.0)
  moves-seated i v (opened s n es) away q e f h = absurd q
  moves-seated i v (opened s n es) (sitting k ws) q e f h =
      let w : v < st.values = leb-false st.values v (all-fail (tests st (tidy i v)) h).1.1.0 in
      record {
        since = s;
        own = ws;
        is_open = f ∙ ap (λ (m : ℕ). sitting m ws) q.at;
        start_is = ap start_of e;
        exactly = moved-exactly s v q.old w;
        record_is = rw (h, e);
        record-rows =
            map-map (λ (c : Change). c.row) (tidy_change st.log s v) (moved st.log s v) ∙ map-id (moved st.log s v)
            ∙ moved-is st o inv s v q.old w;
      }

  -- they are document 01's, and those of the record that is written
  pub tidy-moves : (i v : ℕ) → refusal st (tidy i v) ≡ none → MovesRows st o i v
  tidy-moves i v h = moves-seated i v (session st i) (visitor o i) (inv.sat i) refl refl h

all_right : (cs : List Call) (st : State) (o : Observer) → Inv st o → AllRight o (transcript st cs)
unfolding transcript
all_right [] st o inv = tt
all_right (c ∷ cs) st o inv = (right st o inv c, all_right cs (step st c).0 (watches o c (step st c).1) (step_keeps st o inv c))

-- THE THEOREM. Any run of calls, refused ones and further creations among them, after a creation from an accepted column.
pub every-run : (C : ℕ) (col : Column) → bad_column C col ≡ false → (cs : List Call) → AllRight (started col) (transcript (created C col) cs)
every-run C col good cs = all_right cs (created C col) (started col) (start-inv C col good)
