-- The rules and the plain observer keep in step over any run of calls.
use mathlib.Core.Path.{◌≡◌, refl, sym, ◌∙◌}
use mathlib.Core.Bool.{false, true≢false}
use mathlib.Core.Option.{Option, none, some}
use mathlib.Core.List.{List, [], ◌∷◌, ◌++◌}
use Prim.Native.Nat.{ℕ, suc, ◌+◌, ◌≤◌, ◌<◌}
use native.Mathlib.Omega.{arith}
use borrow.Author.Tests.{leb-false, ltb-false}
use lib.ListN.{length, length-set, length-replicate}
use Rattle.rules.specs.Limits.{max_rows, max_sessions, max_entries}
use Rattle.rules.specs.State.{Log, Chain, Entry, Session, free, opened, State, chain, session, is_free, start_of, rows_of, list_of}
use Rattle.rules.specs.Lists.{inserts}
use Rattle.rules.specs.Commit.{conflicts, commit_changes}
use Rattle.rules.specs.Tidy.{moved, stale}
use Rattle.rules.specs.Calls.{Column, Call, create, begin, query, span, read, update, delete, insert, commit, tidy, abort}
use Rattle.rules.specs.Refusals.{bad_column, tests, refusal, AllFail}
use Rattle.rules.specs.Step.{created, seated, beginning, relisted, committing, tidying, effect, unless, step}
use Rattle.rules.specs.Plain.{Wish, hold, grow, Event, committed, tidied, Visitor, away, sitting, Observer, visitor, moved_by, sits}
use Rattle.rules.specs.Plain.{sits_down, wishing, commits_now, tidies_now, started, accepts, watches}
use Rattle.rules.proofs.Invariant.{EntriesFit, EachOnce}
use Rattle.rules.proofs.Small.{length-snoc, same-everywhere, pair_set}
use Rattle.rules.proofs.PlainLaws.{column_after, column-old, column-now, Same, same_none, same-put, same-insert}
use Rattle.rules.proofs.ListLaws.{Kept, put-kept, insert-kept}
use Rattle.rules.proofs.Agrees.{columns-fit, moved-rows, Core, start-core}
use Rattle.rules.proofs.Committing.{commit-keeps, tidy-keeps}
use Rattle.rules.proofs.Tests.{all-fail}

-- an open session, and what the observer has of it
pub record Seated (C : ℕ) (col : Column) (h : List Event) (s n : ℕ) (es : List Entry) (k : ℕ) (ws : List Wish) : Type 0 where
  pub at : k ≡ s
  pub old : s ≤ length h
  pub count : n ≡ length (column_after col h s)
  pub fits : EntriesFit C n es
  pub once : EachOnce es
  pub short : length es ≤ max_entries
  pub same : Same es ws

-- a session and its visitor
abbrev pub Sits : ℕ → Column → List Event → Session → Visitor → Type 0
Sits C col h free away = Unit {0}
Sits C col h free (sitting k ws) = ⊥
Sits C col h (opened s n es) away = ⊥
Sits C col h (opened s n es) (sitting k ws) = Seated C col h s n es k ws

-- THE INVARIANT of a run: the state and the observer tell the same
pub record Inv (st : State) (o : Observer) : Type 0 where
  pub core : Core st.values o.column st.rows st.log st.chains o.events
  pub sessions-are : length st.sessions ≡ max_sessions
  pub visitors-are : length o.visitors ≡ max_sessions
  pub sat : (i : ℕ) → Sits st.values o.column o.events (session st i) (visitor o i)

-- ---- sessions and visitors

-- one more event leaves a session's start as it was
sits_on : (C : ℕ) (col : Column) (h : List Event) (e : Event) (x : Session) (y : Visitor) → Sits C col h x y
    → Sits C col (h ++ (e ∷ [])) x y
sits_on C col h e free away q = tt
sits_on C col h e free (sitting k ws) q = absurd q
sits_on C col h e (opened s n es) away q = absurd q
sits_on C col h e (opened s n es) (sitting k ws) q =
    record {
      at = q.at;
      old = rw (length-snoc h e) (omega (arith, q.old));
      count = rw (column-old col h e s q.old) q.count;
      fits = q.fits;
      once = q.once;
      short = q.short;
      same = q.same;
    }

pub start-inv : (C : ℕ) (col : Column) → bad_column C col ≡ false → Inv (created C col) (started col)
unfolding created started max_sessions
start-inv C col good =
    record {
      core = start-core C col good;
      sessions-are = length-replicate 16 free;
      visitors-are = length-replicate 16 away;
      sat = λ i. rw (same-everywhere 16 free i, same-everywhere 16 away i) tt;
    }

-- ---- one call

module _ (st : State) (o : Observer) (inv : Inv st o) where
  -- a session and its visitor now
  abbrev SitsNow : Session → Visitor → Type 0
  SitsNow = Sits st.values o.column o.events

  -- one session changed
  reseat : (i : ℕ) (x : Session) (y : Visitor) → SitsNow x y → Inv (seated st i x) (sits o i y)
  reseat i x y q =
      record {
        core = inv.core;
        sessions-are = length-set st.sessions i x ∙ inv.sessions-are;
        visitors-are = length-set o.visitors i y ∙ inv.visitors-are;
        sat = pair_set SitsNow free away st.sessions o.visitors (inv.sessions-are ∙ sym inv.visitors-are) inv.sat i x y q;
      }

  begin-inv : (i : ℕ) (x : Session) (y : Visitor) → SitsNow x y → Inv (beginning st i x).0 (sits_down o i y)
  begin-inv i free away q =
      reseat i _ _
      record {
        at = sym inv.core.logged.pace;
        old = omega (arith, inv.core.logged.pace);
        count = rw (inv.core.logged.pace, column-now o.column o.events) inv.core.logged.rows-now;
        fits = tt;
        once = tt;
        short = omega arith;
        same = same_none;
      }
  begin-inv i free (sitting k ws) q = absurd q
  begin-inv i (opened s n es) away q = absurd q
  begin-inv i (opened s n es) (sitting k ws) q = inv

  -- a list changed, and the wish for it
  relist-inv : (i : ℕ) (a : Wish) (x : Session) (y : Visitor) (es : List Entry) → SitsNow x y → is_free x ≡ false
      → Kept st.values (rows_of x) (list_of x) es → ((ws : List Wish) → Same (list_of x) ws → Same es (ws ++ (a ∷ [])))
      → Inv (relisted st i x es).0 (wishing o i a y)
  relist-inv i a free y es q b k f = absurd (true≢false b)
  relist-inv i a (opened s n xs) away es q b k f = absurd q
  relist-inv i a (opened s n xs) (sitting m ws) es q b k f =
      reseat i _ _
      record {
        at = q.at;
        old = q.old;
        count = q.count;
        fits = k.fits q.fits;
        once = k.once q.once;
        short = k.short q.short;
        same = f ws q.same;
      }

  -- one event more, with its record and the versions then
  event-inv : (rows : ℕ) (log : Log) (chains : List Chain) (slots : ℕ) (e : Event)
      → Core st.values o.column rows log chains (o.events ++ (e ∷ []))
      → Inv (record {
        values = st.values;
        first = st.first;
        rows = rows;
        log = log;
        chains = chains;
        slots = slots;
        sessions = st.sessions;
      })
      (record { column = o.column; events = o.events ++ (e ∷ []); visitors = o.visitors })
  event-inv rows log chains slots e c = record {
    core = c;
    sessions-are = inv.sessions-are;
    visitors-are = inv.visitors-are;
    sat = λ j. sits_on st.values o.column o.events e (session st j) (visitor o j) (inv.sat j);
  }

module _ (st : State) (o : Observer) (inv : Inv st o) where
  commit-inv : (i : ℕ) (x : Session) (y : Visitor) → SitsNow st o inv x y → is_free x ≡ false
      → conflicts st.log (start_of x) (list_of x) ≡ false
      → st.rows + length (inserts (list_of x)) ≤ max_rows → Inv (committing st i (start_of x) (list_of x)) (commits_now o i y)
  unfolding commit_changes
  commit-inv i free y q b e m = absurd (true≢false b)
  commit-inv i (opened s n es) away q b e m = absurd q
  commit-inv i (opened s n es) (sitting k ws) q b e m =
      reseat _ _
      (event-inv st o inv _ _ st.chains st.slots (committed ws)
      (commit-keeps st.values o.column st.rows st.log st.chains o.events inv.core s q.old es ws q.same q.once
      (rw q.count at q.fits) m e)) i free away tt

  -- the rows that a tidy moves, in the rules' words and in the observer's
  pub moved-is : (k v : ℕ) → k ≤ length o.events → v < st.values → moved st.log k v ≡ moved_by o k v
  moved-is k v l w =
      moved-rows st.log (chain st.chains v) v o.column o.events (inv.core.agrees v w) k l
      (columns-fit st.values o.column st.rows st.log o.events inv.core.logged k)

  tidy-inv : (v : ℕ) (x : Session) (y : Visitor) → SitsNow st o inv x y → is_free x ≡ false → v < st.values
      → stale st.log (chain st.chains v) (start_of x) v ≡ false → Inv (tidying st (start_of x) v) (tidies_now o v y)
  tidy-inv v free y q b l e = absurd (true≢false b)
  tidy-inv v (opened s n es) away q b l e = absurd q
  tidy-inv v (opened s n es) (sitting k ws) q b l e =
      rw (q.at, ← (moved-is s v q.old l))
      (event-inv st o inv st.rows _ _ (suc st.slots) (tidied v (moved st.log s v))
      (tidy-keeps st.values o.column st.rows st.log st.chains o.events inv.core s q.old v l e))

  begin-watched : (i : ℕ) (x : Session) → watches o (begin i) (beginning st i x).1 ≡ sits_down o i (visitor o i)
  unfolding watches accepts
  begin-watched i free = refl
  begin-watched i (opened s n es) = refl

  -- an accepted call
  pub accepted : (c : Call) → AllFail (tests st c) → Inv (effect st c).0 (watches o c (effect st c).1)
  unfolding tests effect watches accepts
  accepted (create C col) p = start-inv C col p.0
  accepted (begin i) p = rw (begin-watched i (session st i)) (begin-inv st o inv i (session st i) (visitor o i) (inv.sat i))
  accepted (query i v t n) p = inv
  accepted (span i a b n) p = inv
  accepted (read i r) p = inv
  accepted (update i r v) p =
      let x = session st i in
      relist-inv st o inv i (hold r (some v)) x (visitor o i) _ (inv.sat i) p.1.0
      (put-kept st.values (rows_of x) (list_of x) r (some v) (leb-false _ _ p.1.1.1.0) (leb-false _ _ p.1.1.0)
      p.1.1.1.1.1.0)
      (λ ws s. same-put (list_of x) ws s r (some v))
  accepted (delete i r) p =
      let x = session st i in
      relist-inv st o inv i (hold r none) x (visitor o i) _ (inv.sat i) p.1.0
      (put-kept st.values (rows_of x) (list_of x) r none (leb-false _ _ p.1.1.0) tt p.1.1.1.1.0)
      (λ ws s. same-put (list_of x) ws s r none)
  accepted (insert i v) p =
      let x = session st i in
      relist-inv st o inv i (grow v) x (visitor o i) _ (inv.sat i) p.1.0
      (insert-kept st.values (rows_of x) (list_of x) v (leb-false _ _ p.1.1.0) p.1.1.1.0)
      (λ ws s. same-insert (list_of x) ws s v)
  accepted (commit i) p =
      commit-inv i (session st i) (visitor o i) (inv.sat i) p.1.0 p.1.1.1.0 (ltb-false _ _ p.1.1.1.1.0)
  accepted (tidy i v) p = tidy-inv v (session st i) (visitor o i) (inv.sat i) p.1.0 (leb-false _ _ p.1.1.0) p.1.1.1.1.0
  accepted (abort i) p = reseat st o inv i free away tt

  -- every call keeps the invariant: a refused one changes nothing, and the observer notes nothing
  pub step_keeps : (c : Call) → Inv (step st c).0 (watches o c (step st c).1)
  unfolding step watches
  step_keeps c = go (refusal st c) refl
    where
      go : (q : Option ℕ) → refusal st c ≡ q → Inv (unless st q (effect st c)).0 (watches o c (unless st q (effect st c)).1)
      go none e = accepted c (all-fail (tests st c) e)
      go (some n) e = inv
