-- What the calls leave of the session table: every call but create changes it at the place of its session alone, and create frees every
-- place where it is accepted.
--     told             an outcome told with the session table that a program makes of what it had and of that outcome: `one_seat`, the
--                      session that stands afterwards at a place, put there; `all_seats`, every place freed where the call is accepted
--     begin-moves .. abort-moves, create-frees         that table is the one in the outcome of each call's definition
use mathlib.Core.Path.{◌≡◌, refl, sym, ap, subst, ◌∙◌}
use mathlib.Core.Bool.{Bool, true, false, cond}
use mathlib.Core.Option.{Option, none, some, some-ne-none}
use mathlib.Core.Logic.{⊎_elim}
use mathlib.Core.List.{List, [], ◌∷◌, ◌++◌}
use Prim.Native.Nat.{ℕ, ◌<◌, ◌≤◌, ◌+◌, ◌*◌}
use lib.Dec.{eqb, ltb}
use lib.ListN.{length, set}
use lib.Seq.{set_out, set-get_or, get_or-set_same}
use borrow.Author.Tests.{lt-ltb, leb-false}
use Rattle.bits.proofs.Cases.{lt-cases}
use Rattle.bits.specs.Vec.{vec}
use Rattle.rules.specs.State.{chain, session, start_of}
use Rattle.rules.specs.Versions.{queried}
use Rattle.rules.specs.Tidy.{tidy_changes}
use Rattle.rules.specs.Calls.{Call, create, begin, query, read, update, delete, insert, commit, tidy, abort, span}
use Rattle.rules.specs.Refusals.{Test, first_of, no_session, tests}
use Rattle.rules.specs.Limits.{max_sessions}
use Rattle.tables.specs.declared.session.Session.{Session}
use Rattle.tables.specs.Cells.{Tables, tables, stamp_in, rows_in, slots_in, changes_in, head_of}
use Rattle.tables.specs.Sessions.{freed, begun, session_at}
use Rattle.tables.specs.Clock.{clock_in}
use Rattle.tables.specs.Meaning.{meaning}
use Rattle.lent.specs.Places.{seat_at, put_at}
use Rattle.lent.proofs.PlaceTheorems.{all_freed}
use Rattle.outcomes.specs.Said.{Said, numbers}
use Rattle.outcomes.specs.Outcome.{Outcome, outcome, refusal_at, refusal_of_create, unless}
use Rattle.outcomes.specs.Stores.{clock_cell, slot_cell, head_cell, word_stores}
use Rattle.outcomes.specs.Calls.{own, reseated, beginning, column_of, created_tables, create_of, begin_of, read_of, update_of}
use Rattle.outcomes.specs.Calls.{delete_of, insert_of, commit_of, tidy_of, abort_of}
use Rattle.outcomes.specs.Query.{flips_seen, asked, query_of}
use Rattle.outcomes.specs.Span.{span_of, listed_span}
use Rattle.outcomes.proofs.Serving.{accepted}
use Rattle.outcomes.proofs.StoreLaws.{commit-stores, version-stores, log-stores}
use Rattle.index.specs.Accepts.{accepts}

-- ---- a place

-- the session that stands at a place, put there
put-seat : (ts : List Session) (n : ℕ) → put_at ts n (seat_at ts n) ≡ ts
unfolding put_at seat_at
put-seat ts n = go (ltb n 16)
  where
    go : (b : Bool) → cond b (set ts n (cond b (session_at ts n) freed)) ts ≡ ts
    go true = set-get_or ts n freed
    go false = refl

-- another session is set at a place: it is the one that stands there afterwards
put-set : (ts : List Session) (n : ℕ) (x : Session) → n < 16 → put_at ts n (seat_at (set ts n x) n) ≡ set ts n x
unfolding put_at seat_at
put-set ts n x l =
    ap (λ (b : Bool). cond b (set ts n (cond b (session_at (set ts n x) n) freed)) ts) (lt-ltb n 16 l)
    ∙ ⊎_elim (λ (h : n < length ts). ap (set ts n) (get_or-set_same ts n x freed h))
    (λ (h : length ts ≤ n). set_out ts n (session_at (set ts n x) n) h ∙ sym (set_out ts n x h)) (lt-cases n (length ts))

-- the session table as a program makes it of what it had and of an outcome, is the one in that outcome
abbrev pub Makes : (Outcome → List Session) → Outcome → Type 0
Makes f o = f o ≡ o.after.sessions

-- so the outcome is told with that table
pub told : (clock slots words heads log changes : List ℕ) (us : List Session) (bs : List (List ℕ)) (a : Said) (o : Outcome)
    (f : Outcome → List Session) → Makes f o → outcome (tables clock slots words heads log changes us) bs a ≡ o
    → outcome (tables clock slots words heads log changes (f (outcome (tables clock slots words heads log changes us) bs a))) bs a ≡ o
told clock slots words heads log changes us bs a o f m h =
    ap (λ (vs : List Session). outcome (tables clock slots words heads log changes vs) bs a)
    (ap f h ∙ m ∙ sym (ap (λ (p : Outcome). p.after.sessions) h)) ∙ h

-- by the session that stands afterwards at place n, put there; and, of create, by every place freed where it is accepted
abbrev pub one_seat : List Session → ℕ → Outcome → List Session
one_seat ts n o = put_at ts n (seat_at o.after.sessions n)

abbrev pub all_seats : List Session → Outcome → List Session
all_seats ts o = all_freed ts (accepts o.answer)

-- that session, however it came about
pub back : (clock slots words heads log changes : List ℕ) (us ts : List Session) (bs : List (List ℕ)) (a : Said) (n : ℕ)
    (s : Session) (o : Outcome)
    → Makes (one_seat ts n) o → outcome (tables clock slots words heads log changes us) bs a ≡ o → s ≡ seat_at us n
    → outcome (tables clock slots words heads log changes (put_at ts n s)) bs a ≡ o
back clock slots words heads log changes us ts bs a n s o m h e =
    ap (λ (x : Session). outcome (tables clock slots words heads log changes (put_at ts n x)) bs a) e
    ∙ told clock slots words heads log changes us bs a o (one_seat ts n) m h

-- ---- a call whose first test is that of its session's number
module _ (t : Tables) (n : ℕ) where
  abbrev Moves : Outcome → Type 0
  Moves = Makes (one_seat t.sessions n)

  -- refused, it changes nothing; accepted, its session has a place
  calls : (c : Call) (rest : List Test) → tests (meaning t) c ≡ no_session n ∷ rest → (bs : List (List ℕ)) (o : Outcome)
      → (n < 16 → Moves o) → Moves (unless (refusal_at t c) t bs o)
  unfolding unless max_sessions
  calls c rest e bs o h = go (refusal_at t c) refl
    where
      low : (b : Bool) → b ≡ (no_session n).0 → cond b (some 4) (first_of rest) ≡ none → n < 16
      low true f z = absurd (some-ne-none 4 z)
      low false f z = leb-false 16 n (sym f)

      go : (w : Option ℕ) → refusal_at t c ≡ w → Moves (unless w t bs o)
      go none r = h (low (no_session n).0 refl (sym (ap first_of e) ∙ (accepted t c r).2))
      go (some k) r = put-seat t.sessions n

  -- one of two outcomes
  either : (b : Bool) (o p : Outcome) → Moves o → Moves p → Moves (cond b o p)
  either true o p m k = m
  either false o p m k = k

  -- the ten
  pub begin-moves : Moves (begin_of t n)
  unfolding begin_of beginning tests
  begin-moves = calls (begin n) _ refl [] _ (λ l. either (eqb (own t n).live 1) (outcome t [] _)
      (outcome (reseated t n (begun (clock_in t.clock).stamp (clock_in t.clock).rows)) [] _) (put-seat t.sessions n)
      (put-set t.sessions n _ l))

  pub query-moves : (scratch : List ℕ) (v threshold : ℕ) → Moves (query_of t scratch n v threshold)
  unfolding query_of asked tests
  query-moves scratch v threshold = calls (query n v threshold (length scratch)) _ refl (scratch ∷ []) _
      (λ l. either (eqb (flips_seen t (start_of (session (meaning t) n)) v) 0) (outcome t _ _) (outcome t _ _) (put-seat t.sessions n)
      (put-seat t.sessions n))

  pub read-moves : (r : ℕ) → Moves (read_of t n r)
  unfolding read_of tests
  read-moves r = calls (read n r) _ refl [] _ (λ l. put-seat t.sessions n)

  pub span-moves : (list : List ℕ) (a b : ℕ) → Moves (span_of t list n a b)
  unfolding span_of listed_span tests
  span-moves list a b = calls (span n a b (length list)) _ refl (list ∷ []) _ (λ l. put-seat t.sessions n)

  pub update-moves : (r v : ℕ) → Moves (update_of t n r v)
  unfolding update_of tests
  update-moves r v = calls (update n r v) _ refl [] _ (put-set t.sessions n _)

  pub delete-moves : (r : ℕ) → Moves (delete_of t n r)
  unfolding delete_of tests
  delete-moves r = calls (delete n r) _ refl [] _ (put-set t.sessions n _)

  pub insert-moves : (v : ℕ) → Moves (insert_of t n v)
  unfolding insert_of tests
  insert-moves v = calls (insert n v) _ refl [] _ (put-set t.sessions n _)

  pub abort-moves : Moves (abort_of t n)
  unfolding abort_of tests
  abort-moves = calls (abort n) _ refl [] _ (put-set t.sessions n freed)

  -- tables told in two ways
  stored : (u v : Tables) → u ≡ v → put_at t.sessions n (seat_at v.sessions n) ≡ v.sessions
      → put_at t.sessions n (seat_at u.sessions n) ≡ u.sessions
  stored u v e = subst (λ (w : Tables). put_at t.sessions n (seat_at w.sessions n) ≡ w.sessions) (sym e)

  pub commit-moves : Moves (commit_of t n)
  unfolding commit_of tests
  commit-moves = calls (commit n) _ refl [] _ (λ l. stored _ _ (commit-stores t n) (put-set t.sessions n freed l))

  pub tidy-moves : (v : ℕ) → Moves (tidy_of t n v)
  unfolding tidy_of tests
  tidy-moves v = calls (tidy n v) _ refl [] _ (λ l.
      let s = (own t n).start.0 in
      let k = slots_in t.clock in
      let stamp = stamp_in t.clock + 1 in
      let link = head_of t.heads v + 1 in
      let ws = vec (queried (meaning t).log (chain (meaning t).chains v) s v) 32 in
      let cs = tidy_changes (meaning t).log s v in
      let end = changes_in t.clock + length cs in
      stored _ _ (log-stores t _
      (word_stores (32 * k) ws ++ slot_cell k v ∷ slot_cell (96 + k) stamp ∷ slot_cell (192 + k) link ∷ head_cell v k ∷ [])
      (clock_cell 2 stamp ∷ clock_cell 3 (rows_in t.clock) ∷ clock_cell 4 (k + 1) ∷ clock_cell 5 end ∷ [])
      (version-stores t (32 * k) ws k v stamp link) (changes_in t.clock) cs (stamp_in t.clock) 2 (rows_in t.clock) end)
      (put-seat t.sessions n))

-- ---- create: all free where it is accepted, and else as they were
pub create-frees : (t : Tables) (c : ℕ) (col : List ℕ) → Makes (all_seats t.sessions) (create_of t c col)
unfolding create_of unless accepts
create-frees t c col = go (refusal_of_create t (create c (column_of col)))
  where
    go : (w : Option ℕ) → Makes (all_seats t.sessions) (unless w t [] (outcome (created_tables t c col) [] (numbers (length col ∷ []))))
    go none = refl
    go (some k) = refl
