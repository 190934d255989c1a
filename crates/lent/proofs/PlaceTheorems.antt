-- The theorems of the places: a place that the slice has, and one that it has not; what a caller knows of a session that is put; the loop that
-- frees every place.
use Rattle.std.specs.Prelude.{◌≡◌, refl, Bool, true, false, not, cond, ◌&&◌, List, ℕ, zero, suc, ◌+◌, ◌-◌, ◌≤◌, ◌<◌, T, ltb, length, set, replicate}
use Rattle.std.proofs.Common.{sym, ◌∙◌, ap, ⊎_elim, arith, add-one, lt-ltb, le-ltb, nltb→le, get_or-set_same, get_or-set_other}
use Rattle.std.proofs.Math.ListN.{get_or-eq_default}
use Rattle.std.proofs.Math.Seq.{length-sets, set_out}
use Rattle.std.proofs.Math.Facts.{and_yes, and_no}
use Rattle.bits.proofs.Cases.{eq-cases, lt-cases}
use Rattle.tables.specs.declared.session.Session.{Session}
use Rattle.tables.specs.Sessions.{freed, session_at}
use Rattle.lent.specs.Places.{seat_at, put_at, freed_all, freed_from}

-- ---- a place that the slice has, and one that it has not
cond_yes : {X : Type 0} (t : Bool) (a b : X) → T t → cond t a b ≡ a
cond_yes true a b h = refl
cond_yes false a b h = absurd h

cond_no : {X : Type 0} (t : Bool) (a b : X) → T (not t) → cond t a b ≡ b
cond_no true a b h = absurd h
cond_no false a b h = refl

same-both : {X : Type 0} (t : Bool) (a : X) → cond t a a ≡ a
same-both true a = refl
same-both false a = refl

pub seat-there : (ts : List Session) (n : ℕ) → T (ltb n 16 && ltb n (length ts)) → session_at ts n ≡ seat_at ts n
unfolding seat_at
seat-there ts n h = sym (cond_yes (ltb n 16) (session_at ts n) freed (and_yes (ltb n 16) (ltb n (length ts)) h).0)

pub seat-nowhere : (ts : List Session) (n : ℕ) → T (not (ltb n 16 && ltb n (length ts))) → freed ≡ seat_at ts n
unfolding seat_at
seat-nowhere ts n h =
    ⊎_elim (λ (no : T (not (ltb n 16))). sym (cond_no (ltb n 16) (session_at ts n) freed no))
    (λ (no : T (not (ltb n (length ts)))). sym (ap (λ (s : Session). cond (ltb n 16) s freed)
    (get_or-eq_default ts freed (nltb→le n (length ts) no)) ∙ same-both (ltb n 16) freed))
    (and_no (ltb n 16) (ltb n (length ts)) h)

pub put-there : (ts : List Session) (i : ℕ) (s : Session) → T (ltb i 16 && ltb i (length ts)) → set ts i s ≡ put_at ts i s
unfolding put_at
put-there ts i s h = sym (cond_yes (ltb i 16) (set ts i s) ts (and_yes (ltb i 16) (ltb i (length ts)) h).0)

pub put-nowhere : (ts : List Session) (i : ℕ) (s : Session) → T (not (ltb i 16 && ltb i (length ts))) → ts ≡ put_at ts i s
unfolding put_at
put-nowhere ts i s h =
    ⊎_elim (λ (no : T (not (ltb i 16))). sym (cond_no (ltb i 16) (set ts i s) ts no))
    (λ (no : T (not (ltb i (length ts)))). sym (ap (λ (us : List Session). cond (ltb i 16) us ts)
    (set_out ts i s (nltb→le i (length ts) no)) ∙ same-both (ltb i 16) ts))
    (and_no (ltb i 16) (ltb i (length ts)) h)

-- ---- what a caller knows
put-near : (ts : List Session) (i : ℕ) (s : Session) → i < 16 → put_at ts i s ≡ set ts i s
unfolding put_at
put-near ts i s l = ap (λ (t : Bool). cond t (set ts i s) ts) (lt-ltb i 16 l)

-- nothing changes where there is no such place
pub put-at-far : (ts : List Session) (i : ℕ) (s : Session) → 16 ≤ i → put_at ts i s ≡ ts
unfolding put_at
put-at-far ts i s l = ap (λ (t : Bool). cond t (set ts i s) ts) (le-ltb i 16 l)

pub length-freed-all : (ts : List Session) → length (freed_all ts) ≡ length ts
unfolding freed_all
length-freed-all ts = length-sets ts 0 (replicate 16 freed)

-- a place freed is a step of it
pub free_step : (ts : List Session) (i n : ℕ) → i < 16 → freed_from (put_at ts i freed) (suc i) n ≡ freed_from ts i (suc n)
free_step ts i n h = ap (λ (us : List Session). freed_from us (suc i) n) (put-near ts i freed h)

-- ---- the same of a place put back, and of all freed, where asked to
abbrev pub listed_back : List Session → ℕ → Bool → Session → List Session
listed_back ts n z s = cond z (put_at ts n s) ts

abbrev pub all_freed : List Session → Bool → List Session
all_freed ts z = cond z (freed_all ts) ts

abbrev pub left_freed : List Session → ℕ → Bool → List Session
left_freed ts i z = cond z (freed_from ts i (16 - i)) ts

-- what is put at place n or at none is put where asked to
pub put-meant : (ts : List Session) (n : ℕ) (z : Bool) (s : Session) → put_at ts (cond z n 16) s ≡ listed_back ts n z s
put-meant ts n true s = refl
put-meant ts n false s = put-at-far ts 16 s (omega arith)

pub freed-next : (ts : List Session) (i : ℕ) (z : Bool) → i < 16 → left_freed (listed_back ts i z freed) (i + 1) z ≡ left_freed ts i z
freed-next ts i true h =
    let m : ℕ = 16 - (i + 1) in
    let s : suc m ≡ 16 - i = omega (arith, h) in
    ap (λ (k : ℕ). freed_from (put_at ts i freed) k m) (add-one i) ∙ free_step ts i m h ∙ ap (freed_from ts i) s
freed-next ts i false h = refl

pub left-none : (ts : List Session) (i : ℕ) (z : Bool) → 16 ≤ i → left_freed ts i z ≡ ts
left-none ts i true h = let e : 16 - i ≡ 0 = omega (arith, h) in ap (freed_from ts i) e
left-none ts i false h = refl

pub left-all : (ts : List Session) (z : Bool) → left_freed ts 0 z ≡ all_freed ts z
unfolding freed_all
left-all ts z = refl

-- freeing a place leaves it free, and leaves free what was free
at-itself : (ts : List Session) (j : ℕ) → session_at (set ts j freed) j ≡ freed
at-itself ts j =
    ⊎_elim (λ (l : j < length ts). get_or-set_same ts j freed freed l)
    (λ (l : length ts ≤ j). ap (λ (us : List Session). session_at us j) (set_out ts j freed l) ∙ get_or-eq_default ts freed l)
    (lt-cases j (length ts))

stays-free : (ts : List Session) (i j : ℕ) → session_at ts j ≡ freed → session_at (set ts i freed) j ≡ freed
stays-free ts i j e =
    ⊎_elim (λ (s : j ≡ i). ap (λ (k : ℕ). session_at (set ts k freed) j) (sym s) ∙ at-itself ts j)
    (λ (no : j ≡ i → ⊥). get_or-set_other ts i j freed freed no ∙ e) (eq-cases j i)

all-stay-free : (n : ℕ) (ts : List Session) (i j : ℕ) → session_at ts j ≡ freed → session_at (freed_from ts i n) j ≡ freed
all-stay-free zero ts i j e = e
all-stay-free (suc n) ts i j e = all-stay-free n (set ts i freed) (suc i) j (stays-free ts i j e)

free-between : (n : ℕ) (ts : List Session) (i j : ℕ) → i ≤ j → j < i + n → session_at (freed_from ts i n) j ≡ freed
free-between zero ts i j l h = absurd (omega (arith, l, h))
free-between (suc n) ts i j l h =
    ⊎_elim (λ (s : i ≡ j). all-stay-free n (set ts i freed) (suc i) j (ap (λ (k : ℕ). session_at (set ts k freed) j) s ∙ at-itself ts j))
    (λ (no : i ≡ j → ⊥). free-between n (set ts i freed) (suc i) j (omega (arith, l, no)) (omega (arith, h))) (eq-cases i j)

-- every place is free once all are freed
pub freed-all-at : (ts : List Session) (j : ℕ) → j < 16 → session_at (freed_all ts) j ≡ freed
unfolding freed_all
freed-all-at ts j h = free-between 16 ts 0 j (omega arith) (omega (arith, h))
