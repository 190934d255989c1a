-- DEMAND 1: "Bad input is refused by document 01's numbers, always the smallest that applies; a refusal changes no cell." Every call
-- is judged alike: a number where one of its conditions holds, its work where none does; and the conditions' numbers do not fall.
use mathlib.Core.Path.{◌≡◌, refl, ◌∙◌, sym, ap}
use mathlib.Core.Bool.{Bool, true, false, not, cond, false≢true}
use mathlib.Core.Option.{Option, some, none}
use mathlib.Core.List.{◌∷◌, List}
use mathlib.Core.Logic.{◌↔◌}
use Prim.Native.Nat.{ℕ}
use native.Mathlib.Omega.{arith}
use lib.Dec.{eqb}
use Rattle.rules.specs.State.{session, start_of}
use Rattle.rules.specs.Calls.{Call}
use Rattle.rules.specs.Refusals.{first_of, tests}
use Rattle.rules.proofs.Numbers.{Rising, first-number, number-first, least}
use Rattle.tables.specs.Cells.{Tables}
use Rattle.tables.specs.Room.{roomy}
use Rattle.tables.specs.Damage.{sound}
use Rattle.tables.specs.Meaning.{meaning}
use Rattle.outcomes.specs.Said.{Said, no, numbers, value, words}
use Rattle.outcomes.specs.Outcome.{Outcome, refusal_at, refusal_of_create, unless}
use Rattle.outcomes.specs.Calls.{own, beginning, create_of, begin_of, read_of, update_of, delete_of, insert_of, commit_of, tidy_of, abort_of}
use Rattle.outcomes.specs.Query.{flips_seen, asked, query_of}
use Rattle.outcomes.specs.Span.{listed_span, span_of}
use Rattle.demands.specs.Asks.{Ask, create, begin, query, span, read, update, delete, insert, commit, tidy, abort, call_of}
use Rattle.demands.specs.Asks.{buffers_of, comes_to}
use Rattle.demands.specs.Conditions.{no_room, damaged, conditions}
use Rattle.demands.specs.Demands.{RefusedRightly}

-- an answer that is a refusal's number
abbrev pub is_no : Said → Bool
is_no (no n) = true
is_no (numbers ns) = false
is_no (value x) = false
is_no (words n due place) = false

-- what a call comes to: the number of the first condition that holds and nothing else, or its work, which answers no number
pub record Judged (t : Tables) (a : Ask) : Type 0 where
  pub work : Outcome
  pub is : comes_to t a ≡ unless (first_of (conditions t a)) t (buffers_of a) work
  pub accepts : is_no work.answer ≡ false

-- the number of a call that judges damage
number : (t : Tables) (c : Call) → refusal_at t c ≡ first_of (no_room t ∷ damaged t ∷ tests (meaning t) c)
unfolding refusal_at
number t c = go (roomy t) (sound t)
  where
    go : (r s : Bool) → cond r (cond s (first_of (tests (meaning t) c)) (some 2)) (some 1)
        ≡ cond (not r) (some 1) (cond (not s) (some 2) (first_of (tests (meaning t) c)))
    go true true = refl
    go true false = refl
    go false s = refl

-- the number of create, which does not
create-number : (t : Tables) (c : Call) → refusal_of_create t c ≡ first_of (no_room t ∷ tests (meaning t) c)
unfolding refusal_of_create
create-number t c = go (roomy t)
  where
    go : (r : Bool) → cond r (first_of (tests (meaning t) c)) (some 1) ≡ cond (not r) (some 1) (first_of (tests (meaning t) c))
    go true = refl
    go false = refl

-- a call that is refused by this number, and else comes to this
settled : (t : Tables) (a : Ask) (q : Option ℕ) (o : Outcome) → comes_to t a ≡ unless q t (buffers_of a) o → q ≡ first_of (conditions t a)
    → is_no o.answer ≡ false → Judged t a
settled t a q o e f p = record { work = o; is = e ∙ rw f; accepts = p }

-- what holds of both arms
pub either : {A : Type 0} (P : A → Type 0) (b : Bool) (x y : A) → P x → P y → P (cond b x y)
either P true x y p q = p
either P false x y p q = q

-- every call is
pub judged : (t : Tables) (a : Ask) → Judged t a
unfolding create_of begin_of beginning read_of update_of delete_of insert_of commit_of tidy_of abort_of query_of asked span_of listed_span
judged t (create C col) = settled t (create C col) _ _ refl (create-number t (call_of (create C col))) refl
judged t (begin n) =
    settled t (begin n) _ _ refl (number t (call_of (begin n)))
    (either (λ (o : Outcome). is_no o.answer ≡ false) (eqb (own t n).live 1) _ _ refl refl)
judged t (query scratch n v threshold) =
    settled t (query scratch n v threshold) _ _ refl (number t (call_of (query scratch n v threshold)))
    (either (λ (o : Outcome). is_no o.answer ≡ false) (eqb (flips_seen t (start_of (session (meaning t) n)) v) 0) _ _ refl refl)
judged t (span list n a b) = settled t (span list n a b) _ _ refl (number t (call_of (span list n a b))) refl
judged t (read n r) = settled t (read n r) _ _ refl (number t (call_of (read n r))) refl
judged t (update n r v) = settled t (update n r v) _ _ refl (number t (call_of (update n r v))) refl
judged t (delete n r) = settled t (delete n r) _ _ refl (number t (call_of (delete n r))) refl
judged t (insert n v) = settled t (insert n v) _ _ refl (number t (call_of (insert n v))) refl
judged t (commit n) = settled t (commit n) _ _ refl (number t (call_of (commit n))) refl
judged t (tidy n v) = settled t (tidy n v) _ _ refl (number t (call_of (tidy n v))) refl
judged t (abort n) = settled t (abort n) _ _ refl (number t (call_of (abort n))) refl

-- the numbers of a call's conditions do not fall: 1, and 2 but of create, then the rules' own
rise : (t : Tables) (a : Ask) → Rising 0 (conditions t a)
unfolding tests
rise t (create C col) = omega arith
rise t (begin n) = omega arith
rise t (query scratch n v threshold) = omega arith
rise t (span list n a b) = omega arith
rise t (read n r) = omega arith
rise t (update n r v) = omega arith
rise t (delete n r) = omega arith
rise t (insert n v) = omega arith
rise t (commit n) = omega arith
rise t (tidy n v) = omega arith
rise t (abort n) = omega arith

module _ (t : Tables) (bs : List (List ℕ)) (o : Outcome) (accepts : is_no o.answer ≡ false) (n : ℕ) where
  -- a number is answered exactly if it is given
  answered : (q : Option ℕ) → ((unless q t bs o).answer ≡ no n) ↔ (q ≡ some n)
  unfolding unless
  answered none = (λ e. absurd (false≢true (sym accepts ∙ ap is_no e)), λ e. cc)
  answered (some m) = (λ e. cc, λ e. cc)

  -- and then nothing changes
  kept : (q : Option ℕ) → (unless q t bs o).answer ≡ no n → ((unless q t bs o).after ≡ t) × ((unless q t bs o).buffers ≡ bs)
  unfolding unless
  kept none e = absurd (false≢true (sym accepts ∙ ap is_no e))
  kept (some m) e = (refl, refl)

-- of every call
number-given : (t : Tables) (a : Ask) (n : ℕ) → ((comes_to t a).answer ≡ no n) ↔ (first_of (conditions t a) ≡ some n)
number-given t a n = let j = judged t a in rw j.is (answered t (buffers_of a) j.work j.accepts n (first_of (conditions t a)))

-- THE FIRST DEMAND
pub demand-1 : (t : Tables) (a : Ask) → RefusedRightly t a
demand-1 t a =
    let j = judged t a in
    let given = number-given t a in
    record {
      first = λ n. (λ e. first-number (conditions t a) n ((given n).0 e), λ f. (given n).1 (number-first (conditions t a) n f));
      smallest = λ c m e. let l = least (conditions t a) 0 (rise t a) c m e in (l.0, (given l.0).1 l.1, l.2);
      unchanged = λ n. rw j.is (kept t (buffers_of a) j.work j.accepts n (first_of (conditions t a)));
    }
