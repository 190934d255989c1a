-- A session's list: what `put` and one more insert do to it.
use mathlib.Core.Path.{◌≡◌, refl, sym, ◌∙◌}
use mathlib.Core.Bool.{Bool, true, false, not, ◌&&◌, ◌||◌, cond, true≢false}
use mathlib.Core.Option.{Option, none, some}
use mathlib.Core.List.{List, [], ◌∷◌, ◌++◌}
use mathlib.Core.Logic.{⊎_elim}
use Prim.Native.Nat.{ℕ, suc, ◌≤◌, ◌<◌}
use borrow.Author.Tests.{eqb-true, eqb-false, eq-eqb, ne_eqb, leb-false}
use lib.Dec.{eqb}
use lib.ListN.{length}
use Rattle.bits.proofs.Cases.{eq-cases}
use Rattle.rules.specs.Limits.{max_entries}
use Rattle.rules.specs.State.{Entry, alter, add}
use Rattle.rules.specs.Lists.{target, lists, put, inserts}
use Rattle.rules.specs.Refusals.{is_full}
use Rattle.rules.proofs.Invariant.{Within, EntriesFit, EachOnce}
use Rattle.rules.proofs.Small.{length-snoc}

-- whether there is an answer
abbrev pub is_given : {A : Type 0} → Option A → Bool
is_given none = false
is_given (some a) = true

given-cond : {A : Type 0} (b : Bool) (a : A) (o : Option A) → is_given (cond b (some a) o) ≡ (b || is_given o)
given-cond true a o = refl
given-cond false a o = refl

suc-cond : (b : Bool) (x y : ℕ) → suc (cond b x y) ≡ cond b (suc x) (suc y)
suc-cond true x y = refl
suc-cond false x y = refl

cond_same : {A : Type 0} (b : Bool) (x y z : A) → cond b x z ≡ cond b x (cond b y z)
cond_same true x y z = refl
cond_same false x y z = refl

cond-swap : {A : Type 0} (q p r : ℕ) → (q ≡ p → ⊥) → (x y z : A)
    → cond (eqb q r) x (cond (eqb p r) y z) ≡ cond (eqb p r) y (cond (eqb q r) x z)
cond-swap q p r d x y z =
    ⊎_elim (λ (e : q ≡ r). rw (eq-eqb q r e, ne_eqb p r (λ f. d (e ∙ sym f)))) (λ (n : q ≡ r → ⊥). rw (ne_eqb q r n)) (eq-cases q r)

-- a row is listed exactly if it has a target
pub lists-target : (es : List Entry) (r : ℕ) → lists es r ≡ is_given (target es r)
lists-target [] r = refl
lists-target (alter q t ∷ es) r = rw (given-cond (eqb q r) t (target es r), lists-target es r)
lists-target (add v ∷ es) r = lists-target es r

-- ---- a change of row p put into the list: the entry of p is the first one, or it is further on

pub target-put : (es : List Entry) (p : ℕ) (u : Option ℕ) (r : ℕ) → target (put es p u) r ≡ cond (eqb p r) (some u) (target es r)
target-put [] p u r = refl
target-put (add v ∷ es) p u r = target-put es p u r
target-put (alter q t ∷ es) p u r = go (eqb q p) refl (target-put es p u r)
  where
    go : (b : Bool) → eqb q p ≡ b → target (put es p u) r ≡ cond (eqb p r) (some u) (target es r)
        → target (cond b (alter p u ∷ es) (alter q t ∷ put es p u)) r ≡ cond (eqb p r) (some u) (cond (eqb q r) (some t) (target es r))
    go true e ih = rw (eqb-true q p e) (cond_same (eqb p r) (some u) (some t) (target es r))
    go false e ih = rw ih (cond-swap q p r (eqb-false q p e) (some t) (some u) (target es r))

lists-put : (es : List Entry) (p : ℕ) (u : Option ℕ) (r : ℕ) → lists (put es p u) r ≡ (eqb p r || lists es r)
lists-put es p u r = rw (lists-target (put es p u) r, target-put es p u r, lists-target es r) (given-cond (eqb p r) u (target es r))

pub inserts-put : (es : List Entry) (p : ℕ) (u : Option ℕ) → inserts (put es p u) ≡ inserts es
inserts-put [] p u = refl
inserts-put (add v ∷ es) p u = rw (inserts-put es p u)
inserts-put (alter q t ∷ es) p u = go (eqb q p) (inserts-put es p u)
  where
    go : (b : Bool) → inserts (put es p u) ≡ inserts es → inserts (cond b (alter p u ∷ es) (alter q t ∷ put es p u)) ≡ inserts es
    go true ih = refl
    go false ih = ih

pub length-put : (es : List Entry) (p : ℕ) (u : Option ℕ) → length (put es p u) ≡ cond (lists es p) (length es) (suc (length es))
length-put [] p u = refl
length-put (add v ∷ es) p u = rw (length-put es p u) (suc-cond (lists es p) (length es) (suc (length es)))
length-put (alter q t ∷ es) p u = go (eqb q p) (length-put es p u)
  where
    go : (b : Bool) → length (put es p u) ≡ cond (lists es p) (length es) (suc (length es))
        → length (cond b (alter p u ∷ es) (alter q t ∷ put es p u)) ≡ cond (b || lists es p) (suc (length es)) (suc (suc (length es)))
    go true ih = refl
    go false ih = rw ih (suc-cond (lists es p) (length es) (suc (length es)))

once-put : (es : List Entry) (p : ℕ) (u : Option ℕ) → EachOnce es → EachOnce (put es p u)
once-put [] p u h = (refl, tt)
once-put (add v ∷ es) p u h = once-put es p u h
once-put (alter q t ∷ es) p u h = go (eqb q p) refl (once-put es p u h.1)
  where
    go : (b : Bool) → eqb q p ≡ b → EachOnce (put es p u) → EachOnce (cond b (alter p u ∷ es) (alter q t ∷ put es p u))
    go true e ih = (rw (← (eqb-true q p e)) h.0, h.1)
    go false e ih = (rw (lists-put es p u q, ne_eqb p q (λ f. eqb-false q p e (sym f))) h.0, ih)

fits-put : (C n : ℕ) (es : List Entry) (p : ℕ) (u : Option ℕ) → EntriesFit C n es → p < n → Within C u → EntriesFit C n (put es p u)
fits-put C n [] p u h l w = (l, w, tt)
fits-put C n (add v ∷ es) p u h l w = (h.0, fits-put C n es p u h.1 l w)
fits-put C n (alter q t ∷ es) p u h l w = go (eqb q p) (fits-put C n es p u h.2 l w)
  where
    go : (b : Bool) → EntriesFit C n (put es p u) → EntriesFit C n (cond b (alter p u ∷ es) (alter q t ∷ put es p u))
    go true ih = (l, w, h.2)
    go false ih = (h.0, h.1, ih)

-- ---- one more insert

pub target-insert : (es : List Entry) (v r : ℕ) → target (es ++ (add v ∷ [])) r ≡ target es r
target-insert [] v r = refl
target-insert (alter q t ∷ es) v r = rw (target-insert es v r)
target-insert (add w ∷ es) v r = target-insert es v r

lists-insert : (es : List Entry) (v r : ℕ) → lists (es ++ (add v ∷ [])) r ≡ lists es r
lists-insert es v r = rw (lists-target (es ++ (add v ∷ [])) r, target-insert es v r, lists-target es r)

pub inserts-insert : (es : List Entry) (v : ℕ) → inserts (es ++ (add v ∷ [])) ≡ inserts es ++ (v ∷ [])
inserts-insert [] v = refl
inserts-insert (alter q t ∷ es) v = inserts-insert es v
inserts-insert (add w ∷ es) v = rw (inserts-insert es v)

once-insert : (es : List Entry) (v : ℕ) → EachOnce es → EachOnce (es ++ (add v ∷ []))
once-insert [] v h = tt
once-insert (alter q t ∷ es) v h = (rw (lists-insert es v q) h.0, once-insert es v h.1)
once-insert (add w ∷ es) v h = once-insert es v h

fits-insert : (C n : ℕ) (es : List Entry) (v : ℕ) → EntriesFit C n es → v < C → EntriesFit C n (es ++ (add v ∷ []))
fits-insert C n [] v h l = (l, tt)
fits-insert C n (alter q t ∷ es) v h l = (h.0, h.1, fits-insert C n es v h.2 l)
fits-insert C n (add w ∷ es) v h l = (h.0, fits-insert C n es v h.1 l)

-- ---- what a call that changes a list keeps of it: entries that fit, once each, no more than there is room for

pub record Kept (C n : ℕ) (es es' : List Entry) : Type 0 where
  pub fits : EntriesFit C n es → EntriesFit C n es'
  pub once : EachOnce es → EachOnce es'
  pub short : length es ≤ max_entries → length es' ≤ max_entries

-- a change of a row, where the list has room or the row in it
pub put-kept : (C n : ℕ) (es : List Entry) (p : ℕ) (u : Option ℕ) → p < n → Within C u → (is_full es && not (lists es p)) ≡ false
    → Kept C n es (put es p u)
put-kept C n es p u l w e = record {
  fits = λ f. fits-put C n es p u f l w;
  once = once-put es p u;
  short = λ s. rw (length-put es p u) (go s (lists es p) (is_full es) refl e);
}
  where
    go : length es ≤ max_entries → (a c : Bool) → is_full es ≡ c → (c && not a) ≡ false → cond a (length es) (suc (length es)) ≤ max_entries
    go s true c q z = s
    go s false true q z = absurd (true≢false z)
    go s false false q z = leb-false max_entries (length es) q

-- one more insert
pub insert-kept : (C n : ℕ) (es : List Entry) (v : ℕ) → v < C → is_full es ≡ false → Kept C n es (es ++ (add v ∷ []))
insert-kept C n es v l e = record {
  fits = λ f. fits-insert C n es v f l;
  once = once-insert es v;
  short = λ s. rw (length-snoc es (add v)) (leb-false max_entries (length es) e);
}
