-- The number that a refusal gives: the first test of the call's table that holds has it, and no test with a smaller number
-- holds. A refused call changes nothing, and no accepted call answers a number of a refusal.
use mathlib.Core.Path.{◌≡◌, refl, sym, ap, ap₂, ◌∙◌}
use mathlib.Core.Bool.{Bool, true, false, cond, false≢true}
use mathlib.Core.Option.{Option, none, some, none-ne-some, some-injective}
use mathlib.Core.List.Memᴰ
use mathlib.Core.List.{List, [], ◌∷◌, ◌++◌, Memᴰ}
use mathlib.Core.Logic.{◌⊎◌, inl, inr, ⊎_elim, ◌↔◌}
use Prim.Native.Nat.{ℕ, ◌≤◌}
use native.Mathlib.Omega.{arith}
use Rattle.rules.specs.State.{State, Session, free, opened, session}
use Rattle.rules.specs.Calls.{Call, create, begin, query, span, read, update, delete, insert, commit, tidy, abort, Answer}
use Rattle.rules.specs.Calls.{refused, ok, value, listed, found}
use Rattle.rules.specs.Refusals.{Test, first_of, First, tests, refusal, AllFail}
use Rattle.rules.specs.Step.{beginning, effect, unless, step}
use Rattle.rules.proofs.Tests.{all-fail, fail-all}

-- no number is given exactly if every test fails
pub given : (ts : List Test) → (first_of ts ≡ none) ↔ AllFail ts
given ts = (all-fail ts, fail-all ts)

-- a number is given exactly if it is that of the first test that holds
pub first-number : (ts : List Test) (n : ℕ) → first_of ts ≡ some n → First ts n
first-number [] n e = absurd (none-ne-some n e)
first-number (t ∷ ts) n e = go t.0 refl e (first-number ts n)
  where
    go : (b : Bool) → t.0 ≡ b → cond b (some t.1) (first_of ts) ≡ some n → (first_of ts ≡ some n → First ts n) → First (t ∷ ts) n
    go true p q ih =
        record { before = []; after = ts; split = ap₂ (λ (b : Bool) (m : ℕ). (b, m) ∷ ts) p (some-injective t.1 n q); fail = tt }
    go false p q ih =
        let f = ih q in
        record { before = t ∷ f.before; after = f.after; split = ap (λ (l : List Test). t ∷ l) f.split; fail = (p, f.fail) }

past : (before after : List Test) (n : ℕ) → AllFail before → first_of (before ++ ((true, n) ∷ after)) ≡ some n
past [] after n h = refl
past (t ∷ before) after n h = rw h.0 (past before after n h.1)

pub number-first : (ts : List Test) (n : ℕ) → First ts n → first_of ts ≡ some n
number-first ts n f = ap first_of f.split ∙ past f.before f.after n f.fail

-- no number of the table is below the one before it, and the first is at least n
abbrev pub Rising : ℕ → List Test → Type 0
Rising n [] = Unit {0}
Rising n (t ∷ ts) = (n ≤ t.1) × Rising t.1 ts

-- the rules' numbers do not fall, from 3 on
pub tests-rise : (st : State) (c : Call) → Rising 3 (tests st c)
unfolding tests
tests-rise st (create C col) = omega arith
tests-rise st (begin i) = omega arith
tests-rise st (query i v t n) = omega arith
tests-rise st (span i a b n) = omega arith
tests-rise st (read i r) = omega arith
tests-rise st (update i r v) = omega arith
tests-rise st (delete i r) = omega arith
tests-rise st (insert i v) = omega arith
tests-rise st (commit i) = omega arith
tests-rise st (tidy i v) = omega arith
tests-rise st (abort i) = omega arith

rise-low : (ts : List Test) (n : ℕ) → Rising n ts → (t : Test) → Memᴰ t ts → n ≤ t.1
rise-low [] n h t m = absurd (Memᴰ.not-nil m)
rise-low (x ∷ ts) n h t m =
    ⊎_elim (λ (e : t ≡ x). rw e h.0) (λ (k : Memᴰ t ts). omega (arith, h.0, rise-low ts x.1 h.1 t k))
    (Memᴰ.cases_cons m)

-- in such a table a number is given whenever a test holds, and none that applies is smaller
pub least : (ts : List Test) (m : ℕ) → Rising m ts → (t : Test) → Memᴰ t ts → t.0 ≡ true
    → (n : ℕ) × (first_of ts ≡ some n) × (n ≤ t.1)
least [] m h t k p = absurd (Memᴰ.not-nil k)
least (x ∷ ts) m h t k p = go x.0 refl (Memᴰ.cases_cons k) (λ l. least ts x.1 h.1 t l p)
  where
    go : (b : Bool) → x.0 ≡ b → (t ≡ x) ⊎ Memᴰ t ts → (Memᴰ t ts → (n : ℕ) × (first_of ts ≡ some n) × (n ≤ t.1))
        → (n : ℕ) × (cond b (some x.1) (first_of ts) ≡ some n) × (n ≤ t.1)
    go true a (inl l) ih = (x.1, refl, rw l (omega arith))
    go true a (inr l) ih = (x.1, refl, omega (arith, rise-low ts x.1 h.1 t l))
    go false a (inl l) ih = absurd (false≢true (sym a ∙ (ap (λ (y : Test). y.0) (sym l) ∙ p)))
    go false a (inr l) ih = ih l

-- and the number given is at least m
pub first_above : (ts : List Test) (m : ℕ) → Rising m ts → (n : ℕ) → first_of ts ≡ some n → m ≤ n
first_above [] m h n e = absurd (none-ne-some n e)
first_above (x ∷ ts) m h n e = go x.0 e (first_above ts x.1 h.1 n)
  where
    go : (b : Bool) → cond b (some x.1) (first_of ts) ≡ some n → (first_of ts ≡ some n → x.1 ≤ n) → m ≤ n
    go true q ih = let z : x.1 ≡ n = cc in omega (arith, h.0)
    go false q ih = omega (arith, h.0, ih q)

-- "The smallest number that applies is given.": no test that holds has a smaller one
pub smallest-number : (st : State) (c : Call) (n : ℕ) → refusal st c ≡ some n → (t : Test) → Memᴰ t (tests st c)
    → t.0 ≡ true → n ≤ t.1
smallest-number st c n e t k p =
    let l = least (tests st c) 3 (tests-rise st c) t k p in
    let z : l.0 ≡ n = cc in
    omega (arith, l.2)

-- "A refusal answers the number and nothing more; no table, scratch or session cell changes."
pub refused-changes-nothing : (st : State) (c : Call) (n : ℕ) → refusal st c ≡ some n → step st c ≡ (st, refused n)
unfolding step
refused-changes-nothing st c n e = rw e

pub accepted-takes-effect : (st : State) (c : Call) → refusal st c ≡ none → step st c ≡ effect st c
unfolding step
accepted-takes-effect st c e = rw e

-- an answer that is no refusal
abbrev is_accepted : Answer → Bool
is_accepted (refused n) = false
is_accepted (ok ns) = true
is_accepted (value x) = true
is_accepted (listed n d rs) = true
is_accepted (found rs) = true

begin-accepts : (st : State) (i : ℕ) (x : Session) → is_accepted (beginning st i x).1 ≡ true
begin-accepts st i free = refl
begin-accepts st i (opened s n es) = refl

effect-accepts : (st : State) (c : Call) → is_accepted (effect st c).1 ≡ true
unfolding effect
effect-accepts st (create C col) = refl
effect-accepts st (begin i) = begin-accepts st i (session st i)
effect-accepts st (query i v t n) = refl
effect-accepts st (span i a b n) = refl
effect-accepts st (read i r) = refl
effect-accepts st (update i r v) = refl
effect-accepts st (delete i r) = refl
effect-accepts st (insert i v) = refl
effect-accepts st (commit i) = refl
effect-accepts st (tidy i v) = refl
effect-accepts st (abort i) = refl

-- a call is answered by a refusal's number exactly if the table gives it
pub refused-exactly : (st : State) (c : Call) (n : ℕ) → ((step st c).1 ≡ refused n) ↔ (refusal st c ≡ some n)
unfolding step
refused-exactly st c n = (go (refusal st c), λ e. rw e)
  where
    go : (o : Option ℕ) → (unless st o (effect st c)).1 ≡ refused n → o ≡ some n
    go none e = absurd (false≢true (ap is_accepted (sym e) ∙ effect-accepts st c))
    go (some m) e = cc
