-- What sessions that are not damaged have, as facts on numbers: free and all 0, or open.
use mathlib.Core.Path.{◌≡◌, refl, ap}
use mathlib.Core.Bool.{Bool, true, not, ◌&&◌, ◌||◌}
use mathlib.Core.List.{List}
use mathlib.Core.Logic.{◌⊎◌, inl, inr, ⊎_elim}
use Prim.Native.Nat.{ℕ, ◌≤◌, ◌<◌}
use native.Mathlib.Omega.{arith}
use borrow.Author.Tests.{eqb-true, eqb-false, eq-eqb, ne_eqb, ltb-true, lt-ltb, not-true}
use lib.Dec.{eqb, ltb}
use lib.ListN.{length, get_or, get_or-replicate}
use Rattle.bits.proofs.Cases.{eq-cases}
use Rattle.bits.specs.Words.{Words}
use Rattle.bits.specs.All.{all_below}
use Rattle.bits.proofs.AllLaws.{all-at, all_of}
use Rattle.rules.specs.Limits.{max_sessions, max_entries}
use Rattle.tables.specs.declared.session.Session.{Session}
use Rattle.tables.specs.Cells.{Tables, values_in, first_in, stamp_in, rows_in, rows_in_log}
use Rattle.tables.specs.Sessions.{freed, session_at}
use Rattle.tables.specs.Damage.{clock_fits, records_fit, is_entry_zero, all_zero, entry_fits, once_fits, open_fits, session_fits, sessions_fit}
use Rattle.tables.proofs.Tests.{told, made, either, or_left, or_right}
use Rattle.tables.proofs.Facts.{clock-limits, rows-high-at}

-- ---- a free session

-- all its cells are 0
pub record ZeroFacts (x : Session) : Type 0 where
  pub live-zero : x.live ≡ 0
  pub start-zero : x.start.0 ≡ 0
  pub rows-zero : x.rows.0 ≡ 0
  pub count-zero : x.count ≡ 0
  pub at_zero : (i : ℕ) → i < 32 → ◌≡◌ {A = ℕ} (get_or x.at i 0) 0
  pub to-zero : (i : ℕ) → i < 32 → ◌≡◌ {A = ℕ} (get_or x.to i 0) 0

module _ (x : Session) (e : all_below (is_entry_zero x) 32 ≡ true) (i : ℕ) (l : i < 32) where
  entry_zero : is_entry_zero x i ≡ true
  entry_zero = all-at (is_entry_zero x) 32 e i l

  row_zero : ◌≡◌ {A = ℕ} (get_or x.at i 0) 0
  unfolding is_entry_zero
  row_zero = let z = entry_zero in search told

  target-zero : ◌≡◌ {A = ℕ} (get_or x.to i 0) 0
  unfolding is_entry_zero
  target-zero = let z = entry_zero in search told

pub zero-facts : (x : Session) → all_zero x ≡ true → ZeroFacts x
unfolding all_zero max_entries
zero-facts x e = search (told, row_zero, target-zero) depth 12

pub zero-made : (x : Session) → ZeroFacts x → all_zero x ≡ true
unfolding all_zero is_entry_zero max_entries
zero-made x f = search (made, all_of, f.at_zero, f.to-zero) depth 12

pub freed-zero : ZeroFacts freed
unfolding freed
freed-zero = record {
  live-zero = refl;
  start-zero = refl;
  rows-zero = refl;
  count-zero = refl;
  at_zero = λ i l. get_or-replicate 32 i 0 0 l;
  to-zero = λ i l. get_or-replicate 32 i 0 0 l;
}

-- ---- an open session

-- an entry: a row of the session with its target, or an insert
abbrev pub EntryCases : ℕ → ℕ → ℕ → ℕ → Type 0
EntryCases values rows at to = ((at < rows) × ((to < values) ⊎ (to ≡ 255))) ⊎ ((at ≡ 65535) × (to < values))

-- start, row count and list
pub record OpenFacts (values first stamp : ℕ) (log : List ℕ) (x : Session) : Type 0 where
  pub live-one : x.live ≡ 1
  pub start-old : x.start.0 ≤ stamp
  pub rows_then : x.rows.0 ≡ rows_in_log first log x.start.0
  pub count_low : x.count ≤ 32
  pub entry-cases : (i : ℕ) → i < x.count → EntryCases values x.rows.0 (get_or x.at i 0) (get_or x.to i 0)
  pub listed-once : (i j : ℕ) → i < x.count → j < i → (get_or x.at i 0 ≡ 65535 → ⊥) → get_or x.at j 0 ≡ get_or x.at i 0 → ⊥

target-cases : (values to : ℕ) → ltb to values || eqb to 255 ≡ true → (to < values) ⊎ (to ≡ 255)
target-cases values to e = ⊎_elim (λ p. inl (ltb-true to values p)) (λ p. inr (eqb-true to 255 p)) (either _ _ e)

pub entry-facts : (values rows at to : ℕ) → entry_fits values rows at to ≡ true → EntryCases values rows at to
unfolding entry_fits
entry-facts values rows at to e =
    ⊎_elim (λ p. inl (search (told, target-cases))) (λ p. inr (search told))
    (either (ltb at rows && (ltb to values || eqb to 255)) (eqb at 65535 && ltb to values) e)

target-made : (values to : ℕ) → (to < values) ⊎ (to ≡ 255) → ltb to values || eqb to 255 ≡ true
target-made values to (inl h) = or_left (ltb to values) (eqb to 255) (lt-ltb to values h)
target-made values to (inr h) = or_right (ltb to values) (eqb to 255) (eq-eqb to 255 h)

pub entry-made : (values rows at to : ℕ) → EntryCases values rows at to → entry_fits values rows at to ≡ true
unfolding entry_fits
entry-made values rows at to (inl p) = search (made, or_left, target-made) depth 8
entry-made values rows at to (inr p) = search (made, or_right) depth 8

module _ (x : Session) (i : ℕ) where
  -- the test that entry j does not have the row of entry i
  abbrev other : ℕ → Bool
  other j = not (eqb (get_or x.at j 0) (get_or x.at i 0))

  -- no entry before i has its row
  abbrev OnceAt : Type 0
  OnceAt = (j : ℕ) → j < i → (get_or x.at i 0 ≡ 65535 → ⊥) → get_or x.at j 0 ≡ get_or x.at i 0 → ⊥

  once-facts : once_fits x i ≡ true → OnceAt
  unfolding once_fits
  once-facts e j l n =
      ⊎_elim (λ (p : eqb (get_or x.at i 0) 65535 ≡ true). absurd (n (eqb-true _ _ p)))
      (λ (p : all_below other i ≡ true). eqb-false _ _ (not-true _ (all-at other i p j l)))
      (either (eqb (get_or x.at i 0) 65535) (all_below other i) e)

  once-made : OnceAt → once_fits x i ≡ true
  unfolding once_fits
  once-made h =
      ⊎_elim (λ (p : get_or x.at i 0 ≡ 65535). or_left (eqb (get_or x.at i 0) 65535) (all_below other i) (eq-eqb _ _ p))
      (λ (n : get_or x.at i 0 ≡ 65535 → ⊥).
      or_right (eqb (get_or x.at i 0) 65535) (all_below other i) (all_of other i (λ j l. ap not (ne_eqb _ _ (h j l n)))))
      (eq-cases (get_or x.at i 0) 65535)

module _ (values : ℕ) (x : Session) (i : ℕ) (l : i < x.count) where
  abbrev entry : ℕ → Bool
  entry k = entry_fits values x.rows.0 (get_or x.at k 0) (get_or x.to k 0)

  case_at : all_below entry x.count ≡ true → EntryCases values x.rows.0 (get_or x.at i 0) (get_or x.to i 0)
  case_at e = entry-facts values x.rows.0 (get_or x.at i 0) (get_or x.to i 0) (all-at entry x.count e i l)

  once-at : all_below (once_fits x) x.count ≡ true → OnceAt x i
  once-at e = once-facts x i (all-at (once_fits x) x.count e i l)

module _ (values first stamp : ℕ) (log : List ℕ) (x : Session) where
  pub open-facts : open_fits values first stamp log x ≡ true → OpenFacts values first stamp log x
  unfolding open_fits max_entries
  open-facts e = search (told, case_at, once-at) depth 12

  pub open_made : OpenFacts values first stamp log x → open_fits values first stamp log x ≡ true
  unfolding open_fits max_entries
  open_made f = search (made, all_of, entry-made, once-made, f.entry-cases, f.listed-once) depth 12

  -- any session
  pub session-facts : session_fits values first stamp log x ≡ true → ZeroFacts x ⊎ OpenFacts values first stamp log x
  unfolding session_fits
  session-facts e =
      ⊎_elim (λ (p : all_zero x ≡ true). inl (zero-facts x p)) (λ (p : open_fits values first stamp log x ≡ true). inr (open-facts p))
      (either (all_zero x) (open_fits values first stamp log x) e)

  session-open : session_fits values first stamp log x ≡ true → x.live ≡ 1 → OpenFacts values first stamp log x
  session-open e l =
      ⊎_elim (λ (z : ZeroFacts x). absurd (omega (arith, z.live-zero))) (λ (f : OpenFacts values first stamp log x). f) (session-facts e)

  pub session-made : ZeroFacts x ⊎ OpenFacts values first stamp log x → session_fits values first stamp log x ≡ true
  unfolding session_fits
  session-made (inl z) = or_left (all_zero x) (open_fits values first stamp log x) (zero-made x z)
  session-made (inr f) = or_right (all_zero x) (open_fits values first stamp log x) (open_made f)

-- ---- the session table

module _ (c log : List ℕ) (sessions : List Session) where
  abbrev Fits : ℕ → Bool
  Fits i = session_fits (values_in c) (first_in c) (stamp_in c) log (session_at sessions i)

  pub each-session : sessions_fit c log sessions ≡ true → (i : ℕ) → i < 16 → Fits i ≡ true
  unfolding sessions_fit max_sessions
  each-session e i l = all-at Fits 16 e i l

  pub sessions-made : ((i : ℕ) → i < 16 → Fits i ≡ true) → sessions_fit c log sessions ≡ true
  unfolding sessions_fit max_sessions
  sessions-made h = all_of Fits 16 h

  -- the session at a place is open
  pub open_at : sessions_fit c log sessions ≡ true → (i : ℕ) → i < 16 → (session_at sessions i).live ≡ 1
      → OpenFacts (values_in c) (first_in c) (stamp_in c) log (session_at sessions i)
  open_at e i l = session-open (values_in c) (first_in c) (stamp_in c) log (session_at sessions i) (each-session e i l)

-- its row count is at most the current one, and so no row of an open session is the cell of an insert
module _ (c log : List ℕ) (p : clock_fits c ≡ true) (q : records_fit c log ≡ true) (x : Session)
    (f : OpenFacts (values_in c) (first_in c) (stamp_in c) log x) where
  pub open-rows : x.rows.0 ≤ rows_in c
  open-rows = omega (arith, f.rows_then, rows-high-at c log q x.start.0 f.start-old)

  pub open-rows-few : x.rows.0 ≤ 2048
  open-rows-few = omega (arith, open-rows, (clock-limits c p).few-rows)

-- ---- what the types give

-- every word has 64 bits, and the arrays of a session have 32 cells
pub record Typed (t : Tables) : Type 0 where
  pub words-fit : Words t.words
  pub at_cells : (i : ℕ) → length (session_at t.sessions i).at ≡ 32
  pub to-cells : (i : ℕ) → length (session_at t.sessions i).to ≡ 32
