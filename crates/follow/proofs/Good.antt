-- What good tables have, and what keeps them good when one session is stored; the session that a call is for; and the one lemma
-- that settles the refusals of every call.
use mathlib.Core.Path.{◌≡◌, ◌∙◌, refl}
use mathlib.Core.Bool.{true, false}
use mathlib.Core.List.{List}
use mathlib.Core.Logic.{◌⊎◌, inl, inr}
use mathlib.Core.Option.{Option, none, some}
use Prim.Native.Nat.{ℕ, ◌≤◌, ◌<◌}
use native.Mathlib.Omega.{arith}
use borrow.Author.Tests.{leb-false}
use lib.ListN.{length, set, length-set, length-replicate}
use lib.Seq.{get_or-set_same, get_or-set_other, set_out}
use lib.Dec.{leb}
use Rattle.bits.proofs.Cases.{eq-cases, lt-cases}
use Rattle.rules.specs.Limits.{max_sessions}
use Rattle.rules.specs.State.{opened, session, is_free, State}
use Rattle.rules.specs.Step.{seated, effect, step}
use Rattle.rules.specs.Calls.{Call, create, begin, query, span, read, update, delete, insert, commit, tidy, abort, Answer, refused}
use Rattle.rules.specs.Refusals.{tests, refusal, AllFail}
use Rattle.rules.proofs.Invariant.{Undamaged}
use Rattle.rules.proofs.Tests.{all-fail}
use Rattle.rules.proofs.Numbers.{accepted-takes-effect}
use Rattle.rules.proofs.Undamaged.{step-undamaged}
use Rattle.tables.specs.declared.session.Session.{Session}
use Rattle.tables.specs.Cells.{Tables, tables, values_in, first_in, stamp_in}
use Rattle.tables.specs.Sessions.{freed, session_at}
use Rattle.tables.specs.Damage.{session_fits, sessions_fit}
use Rattle.tables.specs.Meaning.{entries, session_of, meaning}
use Rattle.tables.proofs.Facts.{Room, room-facts, room-made, Parts, parts, whole}
use Rattle.tables.proofs.Sessions.{ZeroFacts, OpenFacts, each-session, sessions-made, session-made, freed-zero, open_at}
use Rattle.tables.proofs.Means.{values-means, open-means, live-means}
use Rattle.tables.proofs.Stores.{session-put}
use Rattle.tables.proofs.Undamaged.{means-undamaged}
use Rattle.outcomes.specs.Calls.{own, reseated}
use Rattle.outcomes.specs.Said.{no}
use Rattle.outcomes.specs.Outcome.{Outcome, outcome, refusal_at, unless}
use Rattle.outcomes.proofs.Entered.{seat-means, seat-there}
use Rattle.follow.specs.Good.{Wide, AllWide, Good}
use Rattle.follow.specs.Heard.{heard}
use Rattle.follow.specs.Follows.{Follows}

-- the facts that come with them
module _ (t : Tables) (g : Good t) where
  pub good-room : Room t
  good-room = room-facts t g.room

  pub good-parts : Parts t
  good-parts = parts t g.whole

-- ---- one session stored

-- a free session has its cells
pub freed-wide : Wide freed
unfolding freed
freed-wide = record { at_wide = length-replicate {A = ℕ} 32 0; to-wide = length-replicate {A = ℕ} 32 0 }

-- what holds of every session, and of the one stored, holds of every session then
stored : (P : Session → Type 0) (ts : List Session) (i : ℕ) (x : Session) → P x → (j : ℕ) → P (session_at ts j)
    → P (session_at (set ts i x) j)
stored P ts i x p j q = go (eq-cases j i) (lt-cases i (length ts))
  where
    go : (j ≡ i) ⊎ (j ≡ i → ⊥) → (i < length ts) ⊎ (length ts ≤ i) → P (session_at (set ts i x) j)
    go (inl e) (inl l) = rw (e, get_or-set_same ts i x freed l) p
    go (inl e) (inr l) = rw (set_out ts i x l) q
    go (inr n) l = rw (get_or-set_other ts i j x freed n) q

-- the arrays keep their cells
pub all-wide-set : (ts : List Session) (i : ℕ) (x : Session) → AllWide ts → Wide x → AllWide (set ts i x)
all-wide-set ts i x h w j l = stored Wide ts i x w j (h j l)

-- the sentence on sessions
pub sessions-set : (c log : List ℕ) (ts : List Session) (i : ℕ) (x : Session) → sessions_fit c log ts ≡ true
    → session_fits (values_in c) (first_in c) (stamp_in c) log x ≡ true → sessions_fit c log (set ts i x) ≡ true
sessions-set c log ts i x e f =
    sessions-made c log (set ts i x)
    (λ j l. stored (λ (y : Session). session_fits (values_in c) (first_in c) (stamp_in c) log y ≡ true) ts i x f j
    (each-session c log ts e j l))

-- a session that is free, or open as it must be, keeps the tables good
pub good-seated : (t : Tables) (i : ℕ) (x : Session) → Good t → Wide x
    → ZeroFacts x ⊎ OpenFacts (values_in t.clock) (first_in t.clock) (stamp_in t.clock) t.log x
    → Good (tables t.clock t.slots t.words t.heads t.log t.changes (set t.sessions i x))
good-seated t i x g w f =
    let after : Tables = tables t.clock t.slots t.words t.heads t.log t.changes (set t.sessions i x) in
    let r = good-room t g in
    let p = good-parts t g in
    let z = sessions-set t.clock t.log t.sessions i x p.sessions-fit (session-made _ _ _ _ x f) in
    record {
      room = room-made after (omega (arith, r, length-set t.sessions i x));
      whole = whole after (search);
      wide = all-wide-set t.sessions i x g.wide w;
    }

-- a session freed
pub good-freed : (t : Tables) (i : ℕ) → Good t
    → Good (tables t.clock t.slots t.words t.heads t.log t.changes (set t.sessions i freed))
good-freed t i g = good-seated t i freed g freed-wide (inl freed-zero)

-- 4 fails: the number is one of the sixteen places
pub place-low : (n : ℕ) → leb max_sessions n ≡ false → n < 16
unfolding max_sessions
place-low n e = leb-false 16 n e

-- 6 fails: the value is below C
pub value_low : (t : Tables) (v : ℕ) → leb (meaning t).values v ≡ false → v < values_in t.clock
value_low t v e = leb-false (values_in t.clock) v (rw (values-means t) at e)

-- another session at the place
pub seated-means : (t : Tables) (n : ℕ) → n < 16 → Good t → (x : Session) → meaning (reseated t n x) ≡ seated (meaning t) n (session_of x)
seated-means t n l g x = session-put t n x l (good-room t g).sessions-room

-- 5 fails: the session is open
pub record Open (t : Tables) (n : ℕ) : Type 0 where
  pub place : n < 16
  pub means : session (meaning t) n ≡ opened (own t n).start.0 (own t n).rows.0 (entries (own t n))
  pub facts : OpenFacts (values_in t.clock) (first_in t.clock) (stamp_in t.clock) t.log (own t n)
  pub wide : Wide (own t n)

pub open-seat : (t : Tables) (n : ℕ) → Good t → leb max_sessions n ≡ false → is_free (session (meaning t) n) ≡ false → Open t n
open-seat t n g e f =
    let l = place-low n e in
    let v : (own t n).live ≡ 1 = live-means (own t n) (rw (seat-means t n) at f) in
    record {
      place = l;
      means = seat-means t n ∙ open-means (own t n) v;
      facts = rw (seat-there t n l) (open_at _ _ _ (good-parts t g).sessions-fit n l (rw (seat-there t n l) at v));
      wide = rw (seat-there t n l) (g.wide n l);
    }

-- what is known of an accepted call: each of its tests fails, and the rules' next state is undamaged
pub record Accepted (t : Tables) (c : Call) : Type 0 where
  pub fail : AllFail (tests (meaning t) c)
  pub undamaged : Undamaged (effect (meaning t) c).0

-- what is left to show of it
pub record Meets (t : Tables) (c : Call) (o : Outcome) : Type 0 where
  pub same-state : meaning o.after ≡ (effect (meaning t) c).0
  pub same_answer : heard c o ≡ (effect (meaning t) c).1
  pub stays-good : Good o.after

-- the same by what the call comes to, and what the rules' effect comes to
pub meets-by : (t : Tables) (c : Call) (o o' : Outcome) (st : State) (a : Answer) → o ≡ o' → effect (meaning t) c ≡ (st, a)
    → meaning o'.after ≡ st → heard c o' ≡ a → Good o'.after → Meets t c o
meets-by t c o o' st a p q m h g = record { same-state = rw (p, q) m; same_answer = rw (p, q) h; stays-good = rw p g }

-- of every call a number is heard as a refusal
heard-no : (c : Call) (t : Tables) (bs : List (List ℕ)) (n : ℕ) → heard c (outcome t bs (no n)) ≡ refused n
heard-no (create C col) t bs n = refl
heard-no (begin i) t bs n = refl
heard-no (query i v s m) t bs n = refl
heard-no (span i a b m) t bs n = refl
heard-no (read i r) t bs n = refl
heard-no (update i r v) t bs n = refl
heard-no (delete i r) t bs n = refl
heard-no (insert i v) t bs n = refl
heard-no (commit i) t bs n = refl
heard-no (tidy i v) t bs n = refl
heard-no (abort i) t bs n = refl

module _ (t : Tables) (g : Good t) (c : Call) where
  -- neither 1 nor 2 is given: the number is the rules' own
  pub refusal_is : refusal_at t c ≡ refusal (meaning t) c
  unfolding refusal_at
  refusal_is = rw (g.room, g.whole)

  -- where no number is given
  pub accepted : refusal (meaning t) c ≡ none → Accepted t c
  accepted e = record {
    fail = all-fail (tests (meaning t) c) e;
    undamaged = rw (← (accepted-takes-effect (meaning t) c e)) (step-undamaged (meaning t) (means-undamaged t g.whole) c);
  }

  -- a refusal leaves the tables and answers its number on both sides: only the accepted call is left
  pub follows : (bs : List (List ℕ)) (o : Outcome) → (Accepted t c → Meets t c o) → Follows t c (unless (refusal_at t c) t bs o)
  unfolding unless step
  follows bs o h = rw refusal_is (go (refusal (meaning t) c) refl)
    where
      go : (q : Option ℕ) → refusal (meaning t) c ≡ q → Follows t c (unless q t bs o)
      go none e =
          let m = h (accepted e) in
          record { same-state = m.same-state ∙ rw e; same_answer = m.same_answer ∙ rw e; stays-good = m.stays-good }
      go (some n) e = record { same-state = rw e; same_answer = heard-no c t bs n ∙ rw e; stays-good = g }
