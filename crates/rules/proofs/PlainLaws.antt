-- The plain observer's replay: what one more event does to the column, to the last tidy and to the rows touched. And the joint of
-- the rules' list and the observer's wishes: the list keeps one entry a row where it stands, the wishes stand as they came, and
-- both ask for the same.
use mathlib.Core.Path.{◌≡◌, refl, sym, ap, ◌∙◌}
use mathlib.Core.Bool.{Bool, true, false, ◌||◌, cond, or-true, or_assoc, or-false, false≢true}
use mathlib.Core.Option.{none, Option, some}
use mathlib.Core.List.Memᴰ
use mathlib.Core.List.{List, [], ◌∷◌, ◌++◌, Memᴰ, map}
use mathlib.Core.List.{map-append, append-nil}
use mathlib.Core.Logic.{◌⊎◌, inl, inr, ◌↔◌}
use Prim.Native.Nat.{ℕ, suc, ◌+◌, ◌≤◌, ◌<◌}
use native.Mathlib.Omega.{arith}
use borrow.Author.Tests.{eqb-false, eq-eqb, ne_eqb}
use lib.Dec.{eqb}
use lib.ListN.{length, take, drop, set, length-append, length-set, take-append-drop, get_or-append}
use lib.Seq.{take-append-le, take-length, take-take, get_or-set_other, get_or-set_same}
use Rattle.bits.proofs.Cases.{bool_cases, eq-cases}
use Rattle.bits.specs.Choice.{or_else}
use Rattle.rules.specs.Calls.{Column, cell}
use Rattle.rules.specs.Plain.{Wish, hold, grow, rewritten, new_rows, met, is_wished, Event, committed, tidied, replay, is_tidy_of}
use Rattle.rules.specs.Plain.{last_from, last_tidy, touches, count_wished}
use Rattle.rules.specs.State.{Entry, add}
use Rattle.rules.specs.Lists.{target, lists, put, inserts, standing}
use Rattle.rules.proofs.Small.{or_parts, take_snoc, length-snoc}
use Rattle.rules.proofs.ListLaws.{is_given, lists-target, target-put, inserts-put, length-put, target-insert, inserts-insert}

-- the column after the commits among the first k events
abbrev pub column_after : Column → List Event → ℕ → Column
column_after col h k = replay col (take k h)

-- ---- one more event

pub replay-append : (col : Column) (g h : List Event) → replay col (g ++ h) ≡ replay (replay col g) h
replay-append col [] h = refl
replay-append col (committed ws ∷ g) h = replay-append (met col ws) g h
replay-append col (tidied v rs ∷ g) h = replay-append col g h

pub column-old : (col : Column) (h : List Event) (e : Event) (k : ℕ) → k ≤ length h
    → column_after col (h ++ (e ∷ [])) k ≡ column_after col h k
column-old col h e k l = rw (take-append-le k h (e ∷ []) l)

pub column-new : (col : Column) (h : List Event) (e : Event)
    → column_after col (h ++ (e ∷ [])) (suc (length h)) ≡ replay (replay col h) (e ∷ [])
column-new col h e = rw (take_snoc h e) (replay-append col h (e ∷ []))

pub column-now : (col : Column) (h : List Event) → column_after col h (length h) ≡ replay col h
column-now col h = rw take-length

last_from-snoc : (v n f : ℕ) (h : List Event) (e : Event)
    → last_from v n f (h ++ (e ∷ [])) ≡ cond (is_tidy_of v e) (suc (n + length h)) (last_from v n f h)
last_from-snoc v n f [] e = let q : n + 0 ≡ n = omega arith in rw q
last_from-snoc v n f (x ∷ h) e =
    let q : suc n + length h ≡ n + suc (length h) = omega arith in
    last_from-snoc v (suc n) (cond (is_tidy_of v x) (suc n) f) h e
    ∙ ap (λ (k : ℕ). cond (is_tidy_of v e) (suc k) (last_from v (suc n) (cond (is_tidy_of v x) (suc n) f) h)) q

pub last_tidy-snoc : (v : ℕ) (h : List Event) (e : Event) → last_tidy v (h ++ (e ∷ [])) ≡ cond (is_tidy_of v e) (suc (length h)) (last_tidy v h)
last_tidy-snoc v h e =
    let q : 0 + length h ≡ length h = omega arith in
    last_from-snoc v 0 0 h e ∙ ap (λ (k : ℕ). cond (is_tidy_of v e) (suc k) (last_tidy v h)) q

-- ---- a column never gets shorter

pub length-rewritten : (col : Column) (ws : List Wish) → length (rewritten col ws) ≡ length col
length-rewritten col [] = refl
length-rewritten col (hold r t ∷ ws) = length-rewritten (set col r t) ws ∙ length-set col r t
length-rewritten col (grow v ∷ ws) = length-rewritten col ws

pub length-met : (col : Column) (ws : List Wish) → length (met col ws) ≡ length col + length (new_rows ws)
length-met col ws = length-append (rewritten col ws) (new_rows ws) ∙ rw (length-rewritten col ws)

replay-longer : (col : Column) (h : List Event) → length col ≤ length (replay col h)
replay-longer col [] = omega arith
replay-longer col (committed ws ∷ h) = omega (arith, length-met col ws, replay-longer (met col ws) h)
replay-longer col (tidied v rs ∷ h) = replay-longer col h

pub replay-since : (col : Column) (h : List Event) (k : ℕ) → replay col h ≡ replay (column_after col h k) (drop k h)
replay-since col h k = ap (replay col) (sym (take-append-drop k h)) ∙ replay-append col (take k h) (drop k h)

pub column-grows : (col : Column) (h : List Event) (k : ℕ) → length (column_after col h k) ≤ length (replay col h)
column-grows col h k = rw (replay-since col h k) (replay-longer (column_after col h k) (drop k h))

pub columns-grow : (col : Column) (h : List Event) (j k : ℕ) → j ≤ k → length (column_after col h j) ≤ length (column_after col h k)
columns-grow col h j k l = rw (← (take-take j k h l)) (column-grows col (take k h) j)

-- ---- rows that events touch

-- one of the events touches row r
abbrev pub touched : List Event → ℕ → Bool
touched [] r = false
touched (e ∷ h) r = touches e r || touched h r

pub touched-snoc : (h : List Event) (e : Event) (r : ℕ) → touched (h ++ (e ∷ [])) r ≡ (touched h r || touches e r)
touched-snoc [] e r = or-false (touches e r)
touched-snoc (x ∷ h) e r = rw (touched-snoc h e r) (sym (or_assoc (touches x r) (touched h r) (touches e r)))

-- so there is an event that touches it
pub touched-means : (h : List Event) (r : ℕ) → (touched h r ≡ true) ↔ ((e : Event) × Memᴰ e h × (touches e r ≡ true))
touched-means [] r = (λ e. absurd (false≢true e), λ p. absurd (Memᴰ.not-nil p.1))
touched-means (x ∷ h) r =
    (to (bool_cases (touches x r)) (touched-means h r).0, λ p. from p (Memᴰ.cases_cons p.1) (touched-means h r).1)
  where
    to : (touches x r ≡ true) ⊎ (touches x r ≡ false) → (touched h r ≡ true → (e : Event) × Memᴰ e h × (touches e r ≡ true))
        → (touches x r || touched h r) ≡ true → (e : Event) × Memᴰ e (x ∷ h) × (touches e r ≡ true)
    to (inl t) ih e = (x, Memᴰ.head refl, t)
    to (inr t) ih e = let p = ih (rw t at e) in (p.0, Memᴰ.tail p.1, p.2)

    from : (p : (e : Event) × Memᴰ e (x ∷ h) × (touches e r ≡ true)) → (p.0 ≡ x) ⊎ Memᴰ p.0 h
        → (((e : Event) × Memᴰ e h × (touches e r ≡ true)) → touched h r ≡ true) → (touches x r || touched h r) ≡ true
    from p (inl q) ih = rw (← q, p.2)
    from p (inr m) ih = rw (ih (p.0, m, p.2)) (or-true (touches x r))

-- a row that no wish is for is as it was
pub unwished-cell : (col : Column) (ws : List Wish) (r : ℕ) → is_wished ws r ≡ false → cell (rewritten col ws) r ≡ cell col r
unwished-cell col [] r e = refl
unwished-cell col (hold q t ∷ ws) r e =
    let p = or_parts (eqb q r) (is_wished ws r) e in
    unwished-cell (set col q t) ws r p.1 ∙ get_or-set_other col q r t none (λ x. eqb-false q r p.0 (sym x))
unwished-cell col (grow v ∷ ws) r e = unwished-cell col ws r e

pub met-low : (col : Column) (ws : List Wish) (r : ℕ) → r < length col → cell (met col ws) r ≡ cell (rewritten col ws) r
met-low col ws r l = get_or-append (rewritten col ws) (new_rows ws) none r (rw (length-rewritten col ws) l)

-- a row of the column that no event touches is as it was
pub untouched-cell : (col : Column) (h : List Event) (r : ℕ) → r < length col → touched h r ≡ false → cell (replay col h) r ≡ cell col r
untouched-cell col [] r l e = refl
untouched-cell col (committed ws ∷ h) r l e =
    let p = or_parts (is_wished ws r) (touched h r) e in
    untouched-cell (met col ws) h r (omega (arith, length-met col ws)) p.1 ∙ (met-low col ws r l ∙ unwished-cell col ws r p.0)
untouched-cell col (tidied v rs ∷ h) r l e = untouched-cell col h r l (or_parts (touches (tidied v rs) r) (touched h r) e).1

-- the last wish for row r
abbrev pub last_wish : List Wish → ℕ → Option (Option ℕ)
last_wish [] r = none
last_wish (hold q t ∷ ws) r = or_else (last_wish ws r) (cond (eqb q r) (some t) none)
last_wish (grow v ∷ ws) r = last_wish ws r

-- a list and some wishes that ask for the same
pub record Same (es : List Entry) (ws : List Wish) : Type 0 where
  pub targets : (r : ℕ) → last_wish ws r ≡ target es r
  pub adds : new_rows ws ≡ map some (inserts es)
  pub count : count_wished ws ≡ length es

-- ---- what wishes do, by the last one for each row

given-or : {A : Type 0} (a b : Option A) → is_given (or_else a b) ≡ (is_given b || is_given a)
given-or none none = refl
given-or none (some b) = refl
given-or (some a) none = refl
given-or (some a) (some b) = refl

given-one : {A : Type 0} (b : Bool) (a : A) → is_given (cond b (some a) none) ≡ b
given-one true a = refl
given-one false a = refl

wished-last : (ws : List Wish) (r : ℕ) → is_wished ws r ≡ is_given (last_wish ws r)
wished-last [] r = refl
wished-last (hold q t ∷ ws) r = rw (given-or (last_wish ws r) (cond (eqb q r) (some t) none), given-one (eqb q r) t, wished-last ws r)
wished-last (grow v ∷ ws) r = wished-last ws r

standing-or : (a b : Option (Option ℕ)) (o : Option ℕ) → standing (or_else a b) o ≡ standing a (standing b o)
standing-or none b o = refl
standing-or (some t) b o = refl

cell-last : (col : Column) (ws : List Wish) (r : ℕ) → r < length col → cell (rewritten col ws) r ≡ standing (last_wish ws r) (cell col r)
cell-last col [] r l = refl
cell-last col (grow v ∷ ws) r l = cell-last col ws r l
cell-last col (hold q t ∷ ws) r l =
    rw (
      cell-last (set col q t) ws r (rw (length-set col q t) l),
      standing-or (last_wish ws r) (cond (eqb q r) (some t) none) (cell col r),
      go (eq-cases q r),
    )
  where
    go : (q ≡ r) ⊎ (q ≡ r → ⊥) → cell (set col q t) r ≡ standing (cond (eqb q r) (some t) none) (cell col r)
    go (inl e) = rw (e, eq-eqb r r refl) (get_or-set_same col r t none l)
    go (inr d) = rw (ne_eqb q r d) (get_or-set_other col q r t none (λ x. d (sym x)))

-- ---- one more wish

last-hold : (ws : List Wish) (p : ℕ) (u : Option ℕ) (r : ℕ) → last_wish (ws ++ (hold p u ∷ [])) r ≡ cond (eqb p r) (some u) (last_wish ws r)
last-hold [] p u r = refl
last-hold (hold q t ∷ ws) p u r = rw (last-hold ws p u r) (go (eqb p r))
  where
    go : (b : Bool)
        → or_else (cond b (some u) (last_wish ws r)) (cond (eqb q r) (some t) none)
        ≡ cond b (some u) (or_else (last_wish ws r) (cond (eqb q r) (some t) none))
    go true = refl
    go false = refl
last-hold (grow v ∷ ws) p u r = last-hold ws p u r

last-grow : (ws : List Wish) (v r : ℕ) → last_wish (ws ++ (grow v ∷ [])) r ≡ last_wish ws r
last-grow [] v r = refl
last-grow (hold q t ∷ ws) v r = rw (last-grow ws v r)
last-grow (grow w ∷ ws) v r = last-grow ws v r

new_rows-append : (ws us : List Wish) → new_rows (ws ++ us) ≡ new_rows ws ++ new_rows us
new_rows-append [] us = refl
new_rows-append (hold q t ∷ ws) us = new_rows-append ws us
new_rows-append (grow v ∷ ws) us = rw (new_rows-append ws us)

wished-append : (ws us : List Wish) (r : ℕ) → is_wished (ws ++ us) r ≡ (is_wished ws r || is_wished us r)
wished-append [] us r = refl
wished-append (hold q t ∷ ws) us r = rw (wished-append ws us r) (sym (or_assoc (eqb q r) (is_wished ws r) (is_wished us r)))
wished-append (grow v ∷ ws) us r = wished-append ws us r

-- a wish for a row that is wished for already adds none
wishes-hold : (ws : List Wish) (p : ℕ) (u : Option ℕ)
    → count_wished (ws ++ (hold p u ∷ [])) ≡ cond (is_wished ws p) (count_wished ws) (suc (count_wished ws))
wishes-hold [] p u = refl
wishes-hold (grow v ∷ ws) p u = rw (wishes-hold ws p u) (go (is_wished ws p))
  where
    go : (b : Bool) → 1 + cond b (count_wished ws) (suc (count_wished ws)) ≡ cond b (1 + count_wished ws) (suc (1 + count_wished ws))
    go true = refl
    go false = omega arith
wishes-hold (hold q t ∷ ws) p u = rw (wished-append ws (hold p u ∷ []) q, wishes-hold ws p u) (go (eq-cases p q))
  where
    this : (b : Bool) (n : ℕ) → cond (b || true) 0 1 + cond b n (suc n) ≡ cond b 0 1 + n
    this true n = refl
    this false n = omega arith

    other : (a b : Bool) (n : ℕ) → cond a 0 1 + cond b n (suc n) ≡ cond b (cond a 0 1 + n) (suc (cond a 0 1 + n))
    other a true n = refl
    other a false n = omega arith

    go : (p ≡ q) ⊎ (p ≡ q → ⊥)
        → cond (is_wished ws q || (eqb p q || false)) 0 1 + cond (is_wished ws p) (count_wished ws) (suc (count_wished ws))
        ≡ cond (eqb q p || is_wished ws p) (cond (is_wished ws q) 0 1 + count_wished ws) (suc (cond (is_wished ws q) 0 1 + count_wished ws))
    go (inl e) = rw (e, eq-eqb q q refl) (this (is_wished ws q) (count_wished ws))
    go (inr d) =
        rw (ne_eqb p q d, ne_eqb q p (λ x. d (sym x)), or-false (is_wished ws q)) (other (is_wished ws q) (is_wished ws p) (count_wished ws))

wishes-grow : (ws : List Wish) (v : ℕ) → count_wished (ws ++ (grow v ∷ [])) ≡ suc (count_wished ws)
wishes-grow [] v = refl
wishes-grow (hold q t ∷ ws) v =
    rw (wished-append ws (grow v ∷ []) q, or-false (is_wished ws q)) (omega (arith, wishes-grow ws v))
wishes-grow (grow w ∷ ws) v = omega (arith, wishes-grow ws v)

-- ---- the joint: it holds of nothing, and each accepted request keeps it

pub same_none : Same [] []
same_none = record { targets = λ r. refl; adds = refl; count = refl }

module _ (es : List Entry) (ws : List Wish) (s : Same es ws) where
  -- a row is wished for exactly if it is listed
  pub same_lists : (r : ℕ) → is_wished ws r ≡ lists es r
  same_lists r = rw (wished-last ws r, s.targets r, lists-target es r)

  -- the column that the wishes make has the targets of the list
  pub same-cell : (col : Column) (r : ℕ) → r < length col → cell (rewritten col ws) r ≡ standing (target es r) (cell col r)
  same-cell col r l = cell-last col ws r l ∙ rw (s.targets r)

  pub same-put : (p : ℕ) (u : Option ℕ) → Same (put es p u) (ws ++ (hold p u ∷ []))
  same-put p u =
      record {
        targets = λ r. rw (last-hold ws p u r, target-put es p u r, s.targets r);
        adds = rw (new_rows-append ws (hold p u ∷ []), inserts-put es p u, append-nil (new_rows ws)) s.adds;
        count = rw (wishes-hold ws p u, length-put es p u, same_lists p, s.count);
      }

  pub same-insert : (v : ℕ) → Same (es ++ (add v ∷ [])) (ws ++ (grow v ∷ []))
  same-insert v =
      record {
        targets = λ r. rw (last-grow ws v r, target-insert es v r) (s.targets r);
        adds = rw (new_rows-append ws (grow v ∷ []), inserts-insert es v, map-append, s.adds);
        count = rw (wishes-grow ws v, length-snoc es (add v), s.count);
      }
