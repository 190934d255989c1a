-- A caller's number and the row or value that it is narrowed to mean the same to every call: both are refused alike where the number
-- fits no row or value, and else they are one number.
use Rattle.std.specs.Prelude.{Result, Ok, Err, OkIff}
use Rattle.std.specs.Result.{result_unwrap_or}
use mathlib.Core.Path.{◌≡◌, refl, sym, ap, subst, ◌∙◌}
use mathlib.Core.Bool.{Bool, true, false, cond}
use mathlib.Core.Option.{some}
use mathlib.Core.List.{List, [], ◌∷◌, ◌++◌}
use mathlib.Core.Logic.{◌⊎◌, inl, inr, ⊎_elim}
use Prim.Native.Nat.{ℕ, ◌≤◌, ◌<◌}
use native.Mathlib.Omega.{arith}
use borrow.Author.Tests.{lt-ltb, le-ltb, le-leb}
use lib.Dec.{leb, leb→le}
use lib.ListN.{length}
use Rattle.bits.proofs.Cases.{lt-cases}
use Rattle.rules.specs.State.{Session, session, rows_of}
use Rattle.rules.specs.Calls.{Call, query, span, read, update, delete, insert, tidy}
use Rattle.rules.specs.Refusals.{Test, first_of, no_session, not_open, no_value, no_row, tests}
use Rattle.tables.specs.declared.counts.Row.{Row}
use Rattle.tables.specs.declared.counts.Value.{Value}
use Rattle.tables.specs.Cells.{Tables, values_in, first_in, stamp_in}
use Rattle.tables.specs.Sessions.{session_at}
use Rattle.tables.specs.Room.{roomy}
use Rattle.tables.specs.Damage.{sound}
use Rattle.tables.specs.Meaning.{meaning}
use Rattle.tables.proofs.Facts.{parts, clock-limits}
use Rattle.tables.proofs.Sessions.{ZeroFacts, OpenFacts, session-facts, each-session, open-rows-few}
use Rattle.tables.proofs.Means.{values-means, session-means, session-past, free-means, rows_of-means}
use Rattle.outcomes.specs.Narrow.{greatest, narrowed}
use Rattle.outcomes.specs.Outcome.{Outcome, refusal_at, unless}
use Rattle.outcomes.specs.Calls.{read_of, update_of, delete_of, insert_of, tidy_of}
use Rattle.outcomes.specs.Query.{query_of}
use Rattle.outcomes.specs.Span.{span_of}

pub narrow-past : (n : ℕ) → 4294967295 < n → 4294967295 ≡ narrowed n
unfolding narrowed greatest
narrow-past n l = rw (lt-ltb 4294967295 n l)

pub narrow-here : (n : ℕ) → n ≤ 4294967295 → n ≡ narrowed n
unfolding narrowed greatest
narrow-here n l = rw (le-ltb 4294967295 n l)

-- what the conversion answers, or the greatest
pub narrow-either : {E : Type 0} (n : ℕ) (r : Result ℕ E) → OkIff r (n < 4294967296) n → result_unwrap_or r 4294967295 ≡ narrowed n
narrow-either n (Ok x) h = h.1 ∙ narrow-here n (omega (arith, h.0))
narrow-either n (Err e) h = narrow-past n (omega (arith, h))

-- a number is its own, or both are at least the greatest
pub narrow-cases : (n : ℕ) → (narrowed n ≡ n) ⊎ ((2048 ≤ narrowed n) × (2048 ≤ n))
narrow-cases n =
    ⊎_elim (λ (l : 4294967295 < n). inr
    (subst (λ (m : ℕ). 2048 ≤ m) (narrow-past n l) (leb→le 2048 4294967295 tt), omega (arith, l, leb→le 2048 4294967295 tt)))
    (λ (l : n ≤ 4294967295). inl (sym (narrow-here n l))) (lt-cases 4294967295 n)

-- ---- two calls that the same test refuses

-- after the same tests, a test that holds in both decides alike
module _ (t : Tables) (bs : List (List ℕ)) (o p : Outcome) where
  first_alike : (ps : List Test) (a b : Test) (rs us : List Test) → a.0 ≡ true → b.0 ≡ true → a.1 ≡ b.1
      → unless (first_of (ps ++ a ∷ rs)) t bs o ≡ unless (first_of (ps ++ b ∷ us)) t bs p
  unfolding unless
  first_alike [] a b rs us h k e = rw (h, k, e)
  first_alike (q ∷ ps) a b rs us h k e = go q.0 (first_alike ps a b rs us h k e)
    where
      go : (z : Bool) → unless (first_of (ps ++ a ∷ rs)) t bs o ≡ unless (first_of (ps ++ b ∷ us)) t bs p
          → unless (cond z (some q.1) (first_of (ps ++ a ∷ rs))) t bs o ≡ unless (cond z (some q.1) (first_of (ps ++ b ∷ us))) t bs p
      go true ih = refl
      go false ih = ih

  alike : (c d : Call) (ps : List Test) (a b : Test) (rs us : List Test) → tests (meaning t) c ≡ ps ++ a ∷ rs
      → tests (meaning t) d ≡ ps ++ b ∷ us
      → a.1 ≡ b.1 → (sound t ≡ true → (a.0 ≡ true) × (b.0 ≡ true)) → unless (refusal_at t c) t bs o ≡ unless (refusal_at t d) t bs p
  unfolding refusal_at unless
  alike c d ps a b rs us e f k h = go (roomy t) (sound t) h
    where
      go : (x y : Bool) → (y ≡ true → (a.0 ≡ true) × (b.0 ≡ true))
          → unless (cond x (cond y (first_of (tests (meaning t) c)) (some 2)) (some 1)) t bs o
          ≡ unless (cond x (cond y (first_of (tests (meaning t) d)) (some 2)) (some 1)) t bs p
      go true true g = rw (e, f) (first_alike ps a b rs us (g refl).0 (g refl).1 k)
      go true false g = refl
      go false y g = refl

-- ---- a number that fits no value, and one that fits no row

module _ (t : Tables) (good : sound t ≡ true) where
  value-past : (v : ℕ) → 2048 ≤ v → leb (meaning t).values v ≡ true
  value-past v l = le-leb (meaning t).values v
      (omega (arith, l, values-means t, (clock-limits t.clock (parts t good).clock-fits).few-values))

  rows-low : (n : ℕ) → rows_of (session (meaning t) n) ≤ 2048
  rows-low n =
      let p = parts t good in
      let x = session_at t.sessions n in
      ⊎_elim
      (λ (l : n < 16). rw (session-means t n l)
      (⊎_elim (λ (z : ZeroFacts x). omega (arith, ap rows_of (free-means x (λ e. omega (arith, e, z.live-zero)))))
      (λ (f : OpenFacts (values_in t.clock) (first_in t.clock) (stamp_in t.clock) t.log x).
      omega (arith, rows_of-means x f.live-one, open-rows-few t.clock t.log p.clock-fits p.records-fit x f))
      (session-facts _ _ _ _ x (each-session _ _ _ p.sessions-fit n l))))
      (λ (l : 16 ≤ n). omega (arith, ap rows_of (session-past t n l))) (lt-cases n 16)

  row-past : (n r : ℕ) → 2048 ≤ r → leb (rows_of (session (meaning t) n)) r ≡ true
  row-past n r l = le-leb (rows_of (session (meaning t) n)) r (omega (arith, l, rows-low n))

-- ---- the calls that take a value or a row

module _ (t : Tables) (n : ℕ) where
  abbrev x : Session
  x = session (meaning t) n

  -- two calls that differ from the value on, and two that differ from the row on, after the same tests
  value-alike : (bs : List (List ℕ)) (o p : Outcome) (c d : Call) (ps : List Test) (v : ℕ) (rs us : List Test)
      → tests (meaning t) c ≡ ps ++ no_value (meaning t) (narrowed v) ∷ rs → tests (meaning t) d ≡ ps ++ no_value (meaning t) v ∷ us
      → (2048 ≤ narrowed v) × (2048 ≤ v) → unless (refusal_at t c) t bs o ≡ unless (refusal_at t d) t bs p
  value-alike bs o p c d ps v rs us e f h =
      alike t bs o p c d ps (no_value (meaning t) (narrowed v)) (no_value (meaning t) v) rs us e f refl
      (λ g. (value-past t g (narrowed v) h.0, value-past t g v h.1))

  row-alike : (o p : Outcome) (c d : Call) (ps : List Test) (r : ℕ) (rs us : List Test)
      → tests (meaning t) c ≡ ps ++ no_row x (narrowed r) ∷ rs → tests (meaning t) d ≡ ps ++ no_row x r ∷ us → (2048 ≤ narrowed r)
      × (2048 ≤ r)
      → unless (refusal_at t c) t [] o ≡ unless (refusal_at t d) t [] p
  row-alike o p c d ps r rs us e f h =
      alike t [] o p c d ps (no_row x (narrowed r)) (no_row x r) rs us e f refl
      (λ g. (row-past t g n (narrowed r) h.0, row-past t g n r h.1))

-- ---- so a call of the row or the value that a number was narrowed to is the call of the number

-- of any function of the number: where both are past every row and value, it must not tell them apart
by-narrowed : {A : Type 0} (f : ℕ → A) (v w : ℕ) → w ≡ narrowed v → ((2048 ≤ narrowed v) × (2048 ≤ v) → f (narrowed v) ≡ f v) → f w ≡ f v
by-narrowed f v w e h = ap f e ∙ ⊎_elim (λ (q : narrowed v ≡ v). ap f q) h (narrow-cases v)

module _ (t : Tables) (n : ℕ) where
  -- the tests before a row or a value
  abbrev two : List Test
  two = no_session n ∷ not_open (session (meaning t) n) ∷ []

  pub query-wide : (scratch : List ℕ) (v threshold : ℕ) (w : Value) → w.0 ≡ narrowed v
      → query_of t scratch n w.0 threshold ≡ query_of t scratch n v threshold
  unfolding query_of tests
  query-wide scratch v threshold w e =
      by-narrowed (λ (k : ℕ). query_of t scratch n k threshold) v w.0 e
      (value-alike t n (scratch ∷ []) _ _ (query n (narrowed v) threshold (length scratch)) (query n v threshold (length scratch)) two v _ _
      refl refl)

  pub span-wide : (list : List ℕ) (a b : ℕ) (w u : Value) → w.0 ≡ narrowed a → u.0 ≡ narrowed b
      → span_of t list n w.0 u.0 ≡ span_of t list n a b
  unfolding span_of tests
  span-wide list a b w u e h =
      by-narrowed (λ (k : ℕ). span_of t list n k u.0) a w.0 e
      (value-alike t n (list ∷ []) _ _ (span n (narrowed a) u.0 (length list)) (span n a u.0 (length list)) two a _ _ refl refl)
      ∙ by-narrowed (λ (k : ℕ). span_of t list n a k) b u.0 h
      (value-alike t n (list ∷ []) _ _ (span n a (narrowed b) (length list)) (span n a b (length list))
      (two ++ no_value (meaning t) a ∷ []) b _ _ refl refl)

  pub read_wide : (r : ℕ) (k : Row) → k.0 ≡ narrowed r → read_of t n k.0 ≡ read_of t n r
  unfolding read_of tests
  read_wide r k e = by-narrowed (read_of t n) r k.0 e (row-alike t n _ _ (read n (narrowed r)) (read n r) two r _ _ refl refl)

  pub update-wide : (r v : ℕ) (k : Row) (w : Value) → k.0 ≡ narrowed r → w.0 ≡ narrowed v → update_of t n k.0 w.0 ≡ update_of t n r v
  unfolding update_of tests
  update-wide r v k w e h =
      by-narrowed (update_of t n k.0) v w.0 h
      (value-alike t n [] _ _ (update n k.0 (narrowed v)) (update n k.0 v) two v _ _ refl refl)
      ∙ by-narrowed (λ (m : ℕ). update_of t n m v) r k.0 e
      (row-alike t n _ _ (update n (narrowed r) v) (update n r v) (two ++ no_value (meaning t) v ∷ []) r _ _ refl refl)

  pub delete-wide : (r : ℕ) (k : Row) → k.0 ≡ narrowed r → delete_of t n k.0 ≡ delete_of t n r
  unfolding delete_of tests
  delete-wide r k e = by-narrowed (delete_of t n) r k.0 e (row-alike t n _ _ (delete n (narrowed r)) (delete n r) two r _ _ refl refl)

  pub insert-wide : (v : ℕ) (w : Value) → w.0 ≡ narrowed v → insert_of t n w.0 ≡ insert_of t n v
  unfolding insert_of tests
  insert-wide v w e =
      by-narrowed (insert_of t n) v w.0 e (value-alike t n [] _ _ (insert n (narrowed v)) (insert n v) two v _ _ refl refl)

  pub tidy-wide : (v : ℕ) (w : Value) → w.0 ≡ narrowed v → tidy_of t n w.0 ≡ tidy_of t n v
  unfolding tidy_of tests
  tidy-wide v w e = by-narrowed (tidy_of t n) v w.0 e (value-alike t n [] _ _ (tidy n (narrowed v)) (tidy n v) two v _ _ refl refl)
