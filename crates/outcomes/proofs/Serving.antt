-- What a core's end comes to in all tables that show its seat: a refusal, an answer that touches no session, one that seats a session.
use Rattle.std.specs.Prelude.{Result, Ok, Err}
use mathlib.Core.Path.{◌≡◌, refl, sym, ap, ◌∙◌}
use mathlib.Core.Bool.{Bool, true, false, cond}
use mathlib.Core.Option.{Option, none, some, some-ne-none}
use mathlib.Core.List.{List, [], ◌∷◌}
use Prim.Native.Nat.{ℕ, ◌<◌}
use borrow.Author.Tests.{lt-ltb}
use lib.ListN.{set}
use Rattle.rules.specs.State.{session}
use Rattle.rules.specs.Calls.{Call}
use Rattle.rules.specs.Refusals.{Test, first_of, no_session, not_open, no_value, tests}
use Rattle.tables.specs.declared.session.Session.{Session}
use Rattle.tables.specs.declared.counts.Stamp.{Stamp}
use Rattle.tables.specs.declared.counts.Row.{Row}
use Rattle.tables.specs.declared.refusal.Refusal.{Refusal}
use Rattle.tables.specs.Refusals.{number_of}
use Rattle.tables.specs.Cells.{Tables, tables}
use Rattle.tables.specs.Sessions.{freed, begun}
use Rattle.tables.specs.Room.{roomy}
use Rattle.tables.specs.Damage.{sound}
use Rattle.tables.specs.Meaning.{meaning}
use Rattle.lent.specs.Places.{put_at}
use Rattle.lent.specs.declared.seats.Seat.{Seat}
use Rattle.outcomes.specs.declared.answers.Answer.{Answer}
use Rattle.outcomes.specs.declared.answers.Answer.TheVariants.{Count, At}
use Rattle.outcomes.specs.declared.answers.Begun.{Begun}
use Rattle.outcomes.specs.declared.answers.Begun.TheVariants.{Opened, Stands}
use Rattle.outcomes.specs.Said.{said, numbers}
use Rattle.outcomes.specs.Outcome.{Outcome, outcome, refusal_at, unless}
use Rattle.outcomes.specs.Calls.{reseated}
use Rattle.outcomes.specs.Seats.{begun_answer, list_answer, opening, relisting, freeing, beside}
use Rattle.outcomes.specs.Seats.{Serves}
use Rattle.outcomes.specs.Enter.{placed_by, opened_by, valued_by}
use Rattle.outcomes.proofs.Entered.{placed-refuses, opened-refuses, valued-refuses}

-- ---- the session table after each end

-- an end that touches no session: what it says, and that the table stays
pub record Idle (settled : List Session → List Session) (a b : Result Answer Refusal) : Type 0 where
  pub says : a ≡ b
  pub stays : (ts : List Session) → settled ts ≡ ts

pub idle : (a b : Result Answer Refusal) → a ≡ b → Idle (λ ts. ts) a b
idle a b e = record { says = e; stays = λ ts. refl }

pub idle-opening : (d : Result Begun Refusal) (n : ℕ) (why : Refusal) → d ≡ Err why → Idle (opening d n) (begun_answer d) (Err why)
idle-opening d n why e = record { says = ap begun_answer e; stays = λ ts. ap (λ (y : Result Begun Refusal). opening y n ts) e }

pub idle-relisting : (d : Result Session Refusal) (n : ℕ) (why : Refusal) → d ≡ Err why → Idle (relisting d n) (list_answer d) (Err why)
idle-relisting d n why e = record { says = ap list_answer e; stays = λ ts. ap (λ (y : Result Session Refusal). relisting y n ts) e }

pub idle-freeing : (d : Result Answer Refusal) (n : ℕ) (why : Refusal) → d ≡ Err why → Idle (freeing d n) d (Err why)
idle-freeing d n why e = record { says = e; stays = λ ts. ap (λ (y : Result Answer Refusal). freeing y n ts) e }

put-seat : (ts : List Session) (n : ℕ) (x : Session) → n < 16 → put_at ts n x ≡ set ts n x
unfolding put_at
put-seat ts n x l = rw (lt-ltb n 16 l)

module _ (t : Tables) (bs : List (List ℕ)) (n : ℕ) where
  -- what is left with a session table, and said
  abbrev left : List Session → Result Answer Refusal → Outcome
  left ts a = outcome (beside t ts) bs (said a)

  pub idle-left : (settled : List Session → List Session) (a b : Result Answer Refusal) → Idle settled a b
      → left (settled t.sessions) a ≡ outcome t bs (said b)
  idle-left settled a b i =
      ap (λ (ts : List Session). left ts a) (i.stays t.sessions) ∙ ap (λ (c : Result Answer Refusal). left t.sessions c) i.says

  seat-left : (x : Session) (a : Result Answer Refusal) → n < 16 → left (put_at t.sessions n x) a ≡ outcome (reseated t n x) bs (said a)
  seat-left x a l = ap (λ (ts : List Session). left ts a) (put-seat t.sessions n x l)

  pub opened-left : (d : Result Begun Refusal) (s : Stamp) (m : Row) → n < 16 → d ≡ Ok (Opened s m)
      → left (opening d n t.sessions) (begun_answer d) ≡ outcome (reseated t n (begun s m)) bs (numbers (s.0 ∷ m.0 ∷ []))
  opened-left d s m l e =
      ap (λ (y : Result Begun Refusal). left (opening y n t.sessions) (begun_answer y)) e ∙ seat-left (begun s m) (Ok (At s m)) l

  pub relisted-left : (d : Result Session Refusal) (x : Session) → n < 16 → d ≡ Ok x
      → left (relisting d n t.sessions) (list_answer d) ≡ outcome (reseated t n x) bs (numbers (x.count ∷ []))
  relisted-left d x l e =
      ap (λ (y : Result Session Refusal). left (relisting y n t.sessions) (list_answer y)) e ∙ seat-left x (Ok (Count x.count)) l

  pub freed-left : (d : Result Answer Refusal) (a : Answer) → n < 16 → d ≡ Ok a
      → left (freeing d n t.sessions) d ≡ outcome (reseated t n freed) bs (said (Ok a))
  freed-left d a l e = ap (λ (y : Result Answer Refusal). left (freeing y n t.sessions) y) e ∙ seat-left freed (Ok a) l

-- ---- a refusal, and no refusal

pub refused-outcome : (t : Tables) (bs : List (List ℕ)) (c : Call) (o : Outcome) (why : Refusal) (settled : List Session → List Session)
    (a : Result Answer Refusal)
    → refusal_at t c ≡ some (number_of why) → Idle settled a (Err why)
    → outcome (beside t (settled t.sessions)) bs (said a) ≡ unless (refusal_at t c) t bs o
unfolding unless
refused-outcome t bs c o why settled a r i =
    idle-left t bs 0 settled a (Err why) i ∙ ap (λ (w : Option ℕ). unless w t bs o) (sym r)

pub accepted-outcome : (t : Tables) (bs : List (List ℕ)) (c : Call) (o : Outcome) → refusal_at t c ≡ none → unless (refusal_at t c) t bs o ≡ o
unfolding unless
accepted-outcome t bs c o r = ap (λ (w : Option ℕ). unless w t bs o) r

-- what an accepted call says of the tables
pub accepted : (t : Tables) (c : Call) → refusal_at t c ≡ none → (roomy t ≡ true) × (sound t ≡ true) × (first_of (tests (meaning t) c) ≡ none)
unfolding refusal_at
accepted t c e = go (roomy t) (sound t) e
  where
    go : (a b : Bool) → cond a (cond b (first_of (tests (meaning t) c)) (some 2)) (some 1) ≡ none
        → (a ≡ true) × (b ≡ true) × (first_of (tests (meaning t) c) ≡ none)
    go true true z = (refl, refl, z)
    go true false z = absurd (some-ne-none 2 z)
    go false b z = absurd (some-ne-none 1 z)

-- ---- a core that a test of `enter` refuses

module _ (clock slots words heads log changes : List ℕ) (bs : List (List ℕ)) (x : Seat) (n : ℕ) (c : Call) (o : Tables → Outcome)
    (why : Refusal) (settled : List Session → List Session) (a : Result Answer Refusal) (i : Idle settled a (Err why)) where
  abbrev lent : List Session → Tables
  lent = tables clock slots words heads log changes

  abbrev Refused : Type 0
  Refused = Serves lent lent bs x n settled a (λ t. unless (refusal_at t c) t bs (o t))

  module _ (rest : Tables → List Test) where
    pub placed-refused : ((t : Tables) → tests (meaning t) c ≡ no_session n ∷ rest t)
        → some (number_of why) ≡ placed_by clock slots words heads log changes x.places x.fit n → Refused
    placed-refused b q ts e =
        let t = lent ts in
        refused-outcome t bs c (o t) why settled a (placed-refuses t n x e c (rest t) (b t) (number_of why) q) i

    pub opened-refused : ((t : Tables) → tests (meaning t) c ≡ no_session n ∷ not_open (session (meaning t) n) ∷ rest t)
        → some (number_of why) ≡ opened_by clock slots words heads log changes x n → Refused
    opened-refused b q ts e =
        let t = lent ts in
        refused-outcome t bs c (o t) why settled a (opened-refuses t n x e c (rest t) (b t) (number_of why) q) i

    pub valued-refused : (v : ℕ)
        → ((t : Tables) → tests (meaning t) c ≡ no_session n ∷ not_open (session (meaning t) n) ∷ no_value (meaning t) v ∷ rest t)
        → some (number_of why) ≡ valued_by clock slots words heads log changes x n v → Refused
    valued-refused v b q ts e =
        let t = lent ts in
        refused-outcome t bs c (o t) why settled a (valued-refuses t n x e c (rest t) v (b t) (number_of why) q) i
