-- Update, delete and insert follow the rules: one entry of the session's list set. What such a list means, that the session stays
-- as it must be, and what is left of each call: its list, and that the entry fits.
use mathlib.Core.Path.{◌≡◌, refl, sym, ap, ap₂, ◌∙◌}
use mathlib.Core.Bool.{Bool, true, false, not, ◌&&◌, ◌||◌, true≢false}
use mathlib.Core.Option.{Option, none, some}
use mathlib.Core.List.{List, [], ◌∷◌, ◌++◌}
use mathlib.Core.Logic.{◌⊎◌, inl, inr, ⊎_elim, ◌≢◌}
use Prim.Native.Nat.{ℕ, zero, suc, ◌+◌, ◌≤◌, ◌<◌}
use native.Mathlib.Omega.{arith}
use borrow.Author.Tests.{eqb-true, eqb-false, ne_eqb, leb-false, lt-ltb, le-ltb}
use lib.Dec.{eqb, leb}
use lib.ListN.{length, get_or, set, length-set}
use lib.Seq.{get_or-set_same, get_or-set_other}
use Rattle.bits.proofs.Cases.{eq-cases, lt-cases}
use Rattle.bits.specs.Tab.{tab}
use Rattle.bits.proofs.TabLaws.{get_or-tab, tab-ext, tab-more}
use Rattle.bits.specs.Rows.{smallest_below}
use Rattle.bits.proofs.RowLaws.{smallest-some, smallest-none}
use Rattle.rules.specs.Limits.{max_entries}
use Rattle.rules.specs.State.{Entry, alter, add, opened, session, rows_of, list_of}
use Rattle.rules.specs.Lists.{lists, put}
use Rattle.rules.specs.Refusals.{is_full, tests}
use Rattle.rules.specs.Calls.{Call, ok, update, delete, insert}
use Rattle.rules.specs.Step.{seated, effect}
use Rattle.rules.specs.Step as rules
use Rattle.rules.proofs.Shapes.{lists-append, put-new, put-there}
use Rattle.tables.specs.declared.session.Session.{Session}
use Rattle.tables.specs.Sessions.{with_entry}
use Rattle.tables.specs.Meaning.{target_of, entry_of, entry_at, entries, meaning}
use Rattle.tables.specs.Cells.{Tables, values_in, first_in, stamp_in}
use Rattle.tables.proofs.Stretch.{tab-stretch, take-tab, tab-set}
use Rattle.tables.proofs.Sessions.{EntryCases, OpenFacts, open-rows-few}
use Rattle.tables.proofs.Fits.{entry-add, entry-alter, target-some, target_none}
use Rattle.tables.proofs.Means.{length-entries, open-means}
use Rattle.tables.proofs.Facts.{clock-limits}
use Rattle.outcomes.specs.Outcome.{Outcome}
use Rattle.outcomes.specs.Calls.{or_place, spot_of, listed_at, own, put_back, update_of, delete_of, insert_of}
use Rattle.follow.specs.Good.{Wide, Good}
use Rattle.follow.specs.Heard.{heard_picked, heard}
use Rattle.follow.specs.Follows.{Follows}
use Rattle.follow.proofs.Good.{good-parts, good-seated, Meets, meets-by, follows, Open, seated-means, value_low, open-seat}

-- ---- one entry set, at a place of the list or at the one after its last

module _ (x : Session) (p at to : ℕ) where
  pub listed-wide : Wide x → Wide (listed_at x p at to)
  unfolding with_entry
  listed-wide w = record { at_wide = length-set x.at p at ∙ w.at_wide; to-wide = length-set x.to p to ∙ w.to-wide }

  at_same : Wide x → p < 32 → get_or (listed_at x p at to).at p 0 ≡ at
  unfolding with_entry
  at_same w l = get_or-set_same x.at p at 0 (omega (arith, w.at_wide))

  at_other : (j : ℕ) → j ≢ p → get_or (listed_at x p at to).at j 0 ≡ get_or x.at j 0
  unfolding with_entry
  at_other j d = get_or-set_other x.at p j at 0 d

  to_same : Wide x → p < 32 → get_or (listed_at x p at to).to p 0 ≡ to
  unfolding with_entry
  to_same w l = get_or-set_same x.to p to 0 (omega (arith, w.to-wide))

  to-other : (j : ℕ) → j ≢ p → get_or (listed_at x p at to).to j 0 ≡ get_or x.to j 0
  unfolding with_entry
  to-other j d = get_or-set_other x.to p j to 0 d

  entry-same : Wide x → p < 32 → entry_at (listed_at x p at to) p ≡ entry_of at to
  unfolding entry_at
  entry-same w l = ap₂ entry_of (at_same w l) (to_same w l)

  entry_other : (j : ℕ) → j ≢ p → entry_at (listed_at x p at to) j ≡ entry_at x j
  unfolding entry_at
  entry_other j d = ap₂ entry_of (at_other j d) (to-other j d)

  count-within : p < x.count → (listed_at x p at to).count ≡ x.count
  unfolding with_entry
  count-within l = rw (lt-ltb p x.count l)

  count_past : x.count ≤ p → (listed_at x p at to).count ≡ x.count + 1
  unfolding with_entry
  count_past l = rw (le-ltb p x.count l)

  -- the entry at p is replaced
  entries-within : Wide x → p < 32 → p < x.count → entries (listed_at x p at to) ≡ set (entries x) p (entry_of at to)
  entries-within w l h =
      ap (tab (entry_at (listed_at x p at to))) (count-within h)
      ∙ tab-set (add 0) (entry_at x) (entry_at (listed_at x p at to)) x.count p h (λ k m d. entry_other k d)
      ∙ ap (set (entries x) p) (entry-same w l)

-- an entry after the last
pub entries-past : (x : Session) (at to : ℕ) → Wide x → x.count < 32
    → entries (listed_at x x.count at to) ≡ entries x ++ (entry_of at to ∷ [])
entries-past x at to w l =
    let p = x.count in
    let f = entry_at (listed_at x p at to) in
    ap (tab f) (count_past x p at to (omega arith)) ∙ tab-more f p
    ∙ ap₂ (λ (es : List Entry) (e : Entry). es ++ (e ∷ [])) (tab-ext f (entry_at x) p (λ k m. entry_other x p at to k (λ e. omega arith)))
    (entry-same x p at to w l)

-- ---- the session stays as it must be

-- a place in a list, or after it, where an entry may stand: no other entry has its row
module _ (values first stamp : ℕ) (log : List ℕ) (x : Session) (f : OpenFacts values first stamp log x) (w : Wide x) (p at to : ℕ)
    (l : p < 32) (h : p ≤ x.count)
    (fits : EntryCases values x.rows.0 at to)
    (alone : (at ≡ 65535 → ⊥) → (j : ℕ) → j < x.count → j ≢ p → get_or x.at j 0 ≡ at → ⊥) where
  abbrev y : Session
  y = listed_at x p at to

  old : (i : ℕ) → i < y.count → i ≢ p → i < x.count
  old i m d =
      ⊎_elim (λ (k : p < x.count). omega (arith, count-within x p at to k))
      (λ (k : x.count ≤ p). omega (arith, count_past x p at to k, d)) (lt-cases p x.count)

  few : y.count ≤ 32
  few =
      ⊎_elim (λ (k : p < x.count). omega (arith, count-within x p at to k, f.count_low))
      (λ (k : x.count ≤ p). omega (arith, count_past x p at to k)) (lt-cases p x.count)

  each-entry : (i : ℕ) → i < y.count → EntryCases values x.rows.0 (get_or y.at i 0) (get_or y.to i 0)
  each-entry i m =
      ⊎_elim (λ (e : i ≡ p). rw (e, at_same x p at to w l, to_same x p at to w l) fits)
      (λ (d : i ≡ p → ⊥). rw (at_other x p at to i d, to-other x p at to i d) (f.entry-cases i (old i m d))) (eq-cases i p)

  once : (i j : ℕ) → i < y.count → j < i → (get_or y.at i 0 ≡ 65535 → ⊥) → get_or y.at j 0 ≡ get_or y.at i 0 → ⊥
  once i j m k n e = go (eq-cases i p) (eq-cases j p)
    where
      go : (i ≡ p) ⊎ (i ≡ p → ⊥) → (j ≡ p) ⊎ (j ≡ p → ⊥) → ⊥
      go (inl a) (inl b) = omega arith
      go (inl a) (inr b) =
          let u : get_or y.at i 0 ≡ at = ap (λ (q : ℕ). get_or y.at q 0) a ∙ at_same x p at to w l in
          alone (λ z. n (u ∙ z)) j (omega arith) b (sym (at_other x p at to j b) ∙ e ∙ u)
      go (inr a) (inl b) =
          let u : get_or y.at j 0 ≡ at = ap (λ (q : ℕ). get_or y.at q 0) b ∙ at_same x p at to w l in
          let v : get_or x.at i 0 ≡ at = sym (at_other x p at to i a) ∙ sym e ∙ u in
          alone (λ z. n (sym e ∙ u ∙ z)) i (old i m a) a v
      go (inr a) (inr b) =
          f.listed-once i j (old i m a) k (λ z. n (at_other x p at to i a ∙ z)) (sym (at_other x p at to j b) ∙ e ∙ at_other x p at to i a)

  pub listed-fits : OpenFacts values first stamp log y
  unfolding with_entry
  listed-fits = record {
    live-one = f.live-one;
    start-old = f.start-old;
    rows_then = f.rows_then;
    count_low = few;
    entry-cases = each-entry;
    listed-once = once;
  }

-- ---- the place of a row

-- the first entry that has the row, or the place after the last
pub record Spot (x : Session) (r p : ℕ) : Type 0 where
  pub within : p ≤ x.count
  pub before : (j : ℕ) → j < p → get_or x.at j 0 ≡ r → ⊥
  pub there : p < x.count → get_or x.at p 0 ≡ r

pub spot-of : (x : Session) (r : ℕ) → Spot x r (spot_of x r)
unfolding spot_of
spot-of x r = go (smallest_below has x.count) refl
  where
    has : ℕ → Bool
    has i = eqb (get_or x.at i 0) r

    go : (o : Option ℕ) → smallest_below has x.count ≡ o → Spot x r (or_place o x.count)
    go none e = record {
      within = omega arith;
      before = λ j l. eqb-false (get_or x.at j 0) r ((smallest-none has x.count).0 e j l);
      there = λ l. absurd (omega arith);
    }
    go (some p) e =
        let s = (smallest-some has x.count p).0 e in
        record {
          within = omega (arith, s.below);
          before = λ j l. eqb-false (get_or x.at j 0) r (s.least j l);
          there = λ l. eqb-true (get_or x.at p 0) r s.has;
        }

-- entries of which none has the row do not list it
lists-none : (x : Session) (r n : ℕ) → ((j : ℕ) → j < n → get_or x.at j 0 ≡ r → ⊥) → lists (tab (entry_at x) n) r ≡ false
unfolding tab entry_at
lists-none x r zero h = refl
lists-none x r (suc n) h =
    lists-append (tab (entry_at x) n) (entry_at x n ∷ []) r
    ∙ ap₂ (λ (a b : Bool). a || b) (lists-none x r n (λ j l. h j (omega arith))) (go (eq-cases (get_or x.at n 0) 65535))
  where
    go : (get_or x.at n 0 ≡ 65535) ⊎ (get_or x.at n 0 ≡ 65535 → ⊥) → lists (entry_at x n ∷ []) r ≡ false
    go (inl e) = rw (entry-add (get_or x.at n 0) (get_or x.to n 0) e)
    go (inr d) = rw (entry-alter (get_or x.at n 0) (get_or x.to n 0) d, ne_eqb (get_or x.at n 0) r (h n (omega arith)))

module _ (x : Session) (r : ℕ) (d : r ≡ 65535 → ⊥) where
  -- "A second change of a row replaces the entry where it stands."
  pub entries-put : (to : ℕ) → Wide x → spot_of x r < 32 → entries (listed_at x (spot_of x r) r to) ≡ put (entries x) r (target_of to)
  unfolding entry_at
  entries-put to w l = go (spot_of x r) (spot-of x r) l (lt-cases (spot_of x r) x.count)
    where
      go : (p : ℕ) → Spot x r p → p < 32 → (p < x.count) ⊎ (x.count ≤ p) → entries (listed_at x p r to) ≡ put (entries x) r (target_of to)
      go p s l (inl h) =
          entries-within x p r to w l h ∙ ap (set (entries x) p) (entry-alter r to d)
          ∙ sym (put-there (entries x) p r (target_of to) (target_of (get_or x.to p 0)) (add 0) (omega (arith, length-entries x))
          (get_or-tab (entry_at x) x.count p (add 0) h ∙ entry-alter (get_or x.at p 0) (get_or x.to p 0) (λ e. d (sym (s.there h) ∙ e))
          ∙ ap (λ (q : ℕ). alter q (target_of (get_or x.to p 0))) (s.there h))
          (ap (λ (es : List Entry). lists es r) (take-tab (entry_at x) p x.count s.within ∙ sym (tab-stretch (entry_at x) p))
          ∙ lists-none x r p s.before))
      go p s l (inr h) =
          let e : p ≡ x.count = omega (arith, s.within) in
          ap (λ (q : ℕ). entries (listed_at x q r to)) e ∙ entries-past x r to w (omega arith)
          ∙ ap (λ (z : Entry). entries x ++ (z ∷ [])) (entry-alter r to d)
          ∙ sym (put-new (entries x) r (target_of to) (lists-none x r x.count (λ j m. s.before j (omega arith))))

  -- 9 fails: there is a place for the row
  pub spot-low : x.count ≤ 32 → (is_full (entries x) && not (lists (entries x) r)) ≡ false → spot_of x r < 32
  unfolding max_entries
  spot-low c e =
      ⊎_elim (λ (h : spot_of x r < x.count). omega arith)
      (λ (h : x.count ≤ spot_of x r).
      let z : lists (entries x) r ≡ false = lists-none x r x.count (λ j m. (spot-of x r).before j (omega arith)) in
      let b : length (entries x) < 32 = leb-false 32 (length (entries x)) (go (is_full (entries x)) (rw z at e)) in
      omega (arith, (spot-of x r).within, length-entries x)) (lt-cases (spot_of x r) x.count)
    where
      go : (b : Bool) → (b && true) ≡ false → b ≡ false
      go true q = absurd (true≢false q)
      go false q = refl

  -- no other entry has the row
  pub spot-alone : (values first stamp : ℕ) (log : List ℕ) → OpenFacts values first stamp log x
      → (j : ℕ) → j < x.count → j ≢ spot_of x r → get_or x.at j 0 ≡ r → ⊥
  spot-alone values first stamp log f j l n e =
      ⊎_elim (λ (h : j < spot_of x r). (spot-of x r).before j h e)
      (λ (h : spot_of x r ≤ j).
      f.listed-once j (spot_of x r) l (omega arith) (λ z. d (sym e ∙ z)) ((spot-of x r).there (omega arith) ∙ sym e))
      (lt-cases j (spot_of x r))

module _ (t : Tables) (g : Good t) (n : ℕ) (o : Open t n) where
  abbrev x : Session
  x = own t n

  -- a call that lists es, where the cells of the changed list mean es and fit
  pub relisted-meets : (p at to : ℕ) (c : Call) (es : List Entry) → ((o : Outcome) → heard c o ≡ heard_picked o)
      → effect (meaning t) c ≡ rules.relisted (meaning t) n (session (meaning t) n) es
      → entries (listed_at x p at to) ≡ es
      → OpenFacts (values_in t.clock) (first_in t.clock) (stamp_in t.clock) t.log (listed_at x p at to)
      → Meets t c (put_back t n (listed_at x p at to))
  unfolding with_entry
  relisted-meets p at to c es picked e q f =
      let y = listed_at x p at to in
      meets-by t c (put_back t n y) (put_back t n y) (seated (meaning t) n (opened x.start.0 x.rows.0 es)) (ok (length es ∷ [])) refl
      (rw o.means at e)
      (seated-means t n o.place g y ∙ ap (seated (meaning t) n) (open-means y f.live-one ∙ ap (opened x.start.0 x.rows.0) q))
      (picked (put_back t n y) ∙ ap (λ (k : ℕ). ok (k ∷ [])) (sym (length-entries y) ∙ ap length q))
      (good-seated t n y g (listed-wide x p at to o.wide) (inr f))

  -- a change of a row
  module _ (r : ℕ) (row_low : leb (rows_of (session (meaning t) n)) r ≡ false)
      (room : (is_full (list_of (session (meaning t) n)) && not (lists (list_of (session (meaning t) n)) r)) ≡ false) where
    inside : r < x.rows.0
    inside = leb-false x.rows.0 r (rw o.means at row_low)

    no-insert : r ≡ 65535 → ⊥
    no-insert e =
        omega (arith, inside, open-rows-few t.clock t.log (good-parts t g).clock-fits (good-parts t g).records-fit x o.facts)

    low : spot_of x r < 32
    low = spot-low x r no-insert o.facts.count_low (rw o.means at room)

    pub change-meets : (to : ℕ) → (to < values_in t.clock) ⊎ (to ≡ 255) → (c : Call) (target : Option ℕ)
        → ((o : Outcome) → heard c o ≡ heard_picked o) → target_of to ≡ target
        → effect (meaning t) c ≡ rules.relisted (meaning t) n (session (meaning t) n) (put (list_of (session (meaning t) n)) r target)
        → Meets t c (put_back t n (listed_at x (spot_of x r) r to))
    change-meets to fits c target picked z e =
        relisted-meets (spot_of x r) r to c (put (list_of (session (meaning t) n)) r target) picked e
        (rw o.means (entries-put x r no-insert to o.wide low ∙ ap (put (entries x) r) z))
        (listed-fits (values_in t.clock) (first_in t.clock) (stamp_in t.clock) t.log x o.facts o.wide (spot_of x r) r to low
        (spot-of x r).within
        (inl (inside, fits)) (λ d. spot-alone x r d (values_in t.clock) (first_in t.clock) (stamp_in t.clock) t.log o.facts))

pub update-follows : (t : Tables) → Good t → (n r v : ℕ) → Follows t (update n r v) (update_of t n r v)
unfolding update_of tests effect
update-follows t g n r v =
    follows t g (update n r v) [] (put_back t n (listed_at (own t n) (spot_of (own t n) r) r v))
    (λ a. let f = a.fail in
    let l = value_low t v f.1.1.0 in
    change-meets t g n (open-seat t n g f.0 f.1.0) r f.1.1.1.0 f.1.1.1.1.1.0 v (inl l) (update n r v)
    (some v) (λ o. refl)
    (target-some v (λ e. omega (arith, l, (clock-limits t.clock (good-parts t g).clock-fits).few-values))) refl)

pub delete-follows : (t : Tables) → Good t → (n r : ℕ) → Follows t (delete n r) (delete_of t n r)
unfolding delete_of tests effect
delete-follows t g n r =
    follows t g (delete n r) [] (put_back t n (listed_at (own t n) (spot_of (own t n) r) r 255))
    (λ a. let f = a.fail in
    change-meets t g n (open-seat t n g f.0 f.1.0) r f.1.1.0 f.1.1.1.1.0 255 (inr refl) (delete n r) none (λ o. refl)
    (target_none 255 refl) refl)

module _ (t : Tables) (g : Good t) (n v : ℕ) where
  accepted : Open t n → v < values_in t.clock → is_full (list_of (session (meaning t) n)) ≡ false
      → Meets t (insert n v) (put_back t n (listed_at (own t n) (own t n).count 65535 v))
  unfolding effect max_entries
  accepted o l full =
      let x = own t n in
      let few : length (entries x) < 32 = leb-false 32 (length (entries x)) (rw o.means at full) in
      let low : x.count < 32 = omega (arith, length-entries x) in
      relisted-meets t g n o x.count 65535 v (insert n v) (list_of (session (meaning t) n) ++ (add v ∷ [])) (λ o. refl) refl
      (rw o.means (entries-past x 65535 v o.wide low ∙ ap (λ (e : Entry). entries x ++ (e ∷ [])) (entry-add 65535 v refl)))
      (listed-fits (values_in t.clock) (first_in t.clock) (stamp_in t.clock) t.log x o.facts o.wide x.count 65535 v low
      (omega arith) (inr (refl, l))
      (λ d. absurd (d refl)))

  pub insert-follows : Follows t (insert n v) (insert_of t n v)
  unfolding insert_of tests
  insert-follows =
      follows t g (insert n v) [] (put_back t n (listed_at (own t n) (own t n).count 65535 v))
      (λ a. let f = a.fail in accepted (open-seat t n g f.0 f.1.0) (value_low t v f.1.1.0) f.1.1.1.0)
