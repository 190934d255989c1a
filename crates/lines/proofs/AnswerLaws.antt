-- An answer of the code, written: what it says to the rules.
use mathlib.Core.Path.{◌≡◌, refl, sym, ap}
use mathlib.Core.Bool.{Bool, true, false, cond, ◌&&◌}
use mathlib.Core.List.{List, [], ◌∷◌}
use mathlib.Core.Option.{Option, none, some}
use Prim.Native.Nat.{ℕ, ◌+◌, ◌*◌, ◌≤◌}
use native.Mathlib.Omega.{arith}
use lib.Dec.{leb, ltb}
use lib.ListN.{length, take, drop, length-take}
use Rattle.bits.specs.Rows.{rows_of}
use Rattle.rules.specs.Calls.{Answer, refused, ok, value, listed}
use Rattle.tables.specs.declared.counts.Stamp.{Stamp}
use Rattle.tables.specs.declared.counts.Row.{Row}
use Rattle.tables.specs.declared.counts.Value.{Value}
use Rattle.tables.specs.declared.refusal.Refusal.{Refusal}
use Rattle.tables.specs.Refusals.{number_of}
use Rattle.std.specs.Prelude as std
use Rattle.history.specs.Read.{standing_of}
use Rattle.text.specs.Show.{show}
use Rattle.fields.specs.Split.{newline}
use Rattle.writing.specs.Wrote.{Wrote, Answered}
use Rattle.writing.proofs.WroteLaws.{answer-line}
use Rattle.outcomes.specs.declared.answers.Place.{Place}
use Rattle.outcomes.specs.declared.answers.Answer as core
use Rattle.outcomes.specs.declared.answers.Answer.TheVariants.{Count, At, Read, Listed}
use Rattle.outcomes.specs.Said.{Said, no, said, numbers_of, place_of}
use Rattle.outcomes.specs.Query.{picked_from}
use Rattle.lines.specs.Line.{answer_line, PutLine}
use Rattle.lines.specs.Turn.{heard_from}

-- ---- the part that the picker returns has at most 32 words

at_most : (b : Bool) (l : List ℕ) → length (cond b (take 32 l) []) ≤ 32
at_most true l = omega (arith, length-take 32 l)
at_most false l = omega arith

pub picked-short : (ws s : List ℕ) (place : Option ℕ) → length (picked_from ws s place) ≤ 32
unfolding picked_from
picked-short ws s none = at_most (leb 32 (length s)) s
picked-short ws s (some i) = at_most (ltb i 96 && leb (32 * i + 32) (length ws)) (drop (32 * i) ws)

pub queried-few : (ws s vector : List ℕ) (place : Place) → vector ≡ picked_from ws s (place_of place) → length vector ≤ 32
queried-few ws s vector place e = omega (arith, ap length e, picked-short ws s (place_of place))

pub queried-fits : (ws s vector out : List ℕ) (place : Place) → vector ≡ picked_from ws s (place_of place)
    → 10275 ≤ length out → 35 + 320 * length vector ≤ length out
queried-fits ws s vector out place e l = omega (arith, queried-few ws s vector place e, l)

-- ---- read

module _ (d e : List ℕ) (r : ℕ) (found : std.Option Value) where
  pub put_holds : (v : Value) → found ≡ std.Some v → Answered d (ok (v.0 ∷ [])) e r 13 → Answered d (value (standing_of found)) e r 13
  unfolding show
  put_holds v p a =
      let b : Answered d (value (some v.0)) e r 13 = record { wrote = a.wrote; short = a.short } in
      rw p b

  pub put-none : found ≡ std.None → Answered d (value none) e r 4 → Answered d (value (standing_of found)) e r 13
  put-none p a =
      let b : Answered d (value none) e r 13 = record { wrote = a.wrote; short = omega (arith, a.short) } in
      rw p b

-- ---- every answer

module _ (ws s d e : List ℕ) (r : ℕ) where
  -- with room for the longest
  heard-as : (x : Said) (a : Answer) (k : ℕ) → heard_from ws s x ≡ a → Answered d a e r k → k ≤ 10275 → Answered d (heard_from ws s x) e r 10275
  heard-as x a k q h l =
      let b : Answered d a e r 10275 = record { wrote = h.wrote; short = omega (arith, h.short, l) } in
      rw q b

  pub put_refused : (answer : std.Result core.Answer Refusal) (why : Refusal) (n : ℕ) → answer ≡ std.Err why → n ≡ number_of why
      → Answered d (refused n) e r 13 → Answered d (heard_from ws s (said answer)) e r 10275
  unfolding heard_from
  put_refused answer why n p q h = rw p (heard-as (no (number_of why)) (refused n) 13 (ap refused (sym q)) h (omega arith))

  pub put_accepted : (answer : std.Result core.Answer Refusal) (a : core.Answer) → answer ≡ std.Ok a
      → Answered d (heard_from ws s (numbers_of a)) e r 10275 → Answered d (heard_from ws s (said answer)) e r 10275
  put_accepted answer a p h = rw p h

  module _ (answer : core.Answer) where
    pub put_count : (n : ℕ) → answer ≡ Count n → Answered d (ok (n ∷ [])) e r 13 → Answered d (heard_from ws s (numbers_of answer)) e r 10275
    unfolding heard_from
    put_count n p h = rw p (heard-as (numbers_of (Count n)) (ok (n ∷ [])) 13 refl h (omega arith))

    pub put-at : (t : Stamp) (n : Row) → answer ≡ At t n → Answered d (ok (t.0 ∷ n.0 ∷ [])) e r 24
        → Answered d (heard_from ws s (numbers_of answer)) e r 10275
    unfolding heard_from
    put-at t n p h = rw p (heard-as (numbers_of (At t n)) (ok (t.0 ∷ n.0 ∷ [])) 24 refl h (omega arith))

    pub put-read : (x : std.Option Value) → answer ≡ Read x → Answered d (value (standing_of x)) e r 13
        → Answered d (heard_from ws s (numbers_of answer)) e r 10275
    unfolding heard_from
    put-read x p h = rw p (heard-as (numbers_of (Read x)) (value (standing_of x)) 13 refl h (omega arith))

    pub put-listed : (flips : ℕ) (due : Bool) (place : Place) (vector : List ℕ) → answer ≡ Listed flips due place
        → vector ≡ picked_from ws s (place_of place)
        → Answered d (listed flips due (rows_of vector)) e r (35 + 320 * length vector) → Answered d (heard_from ws s (numbers_of answer)) e r 10275
    unfolding heard_from
    put-listed flips due place vector p q h =
        rw p
        (heard-as (numbers_of (Listed flips due place)) (listed flips due (rows_of vector)) (35 + 320 * length vector)
        (ap (λ (v : List ℕ). listed flips due (rows_of v)) (sym q)) h
        (omega (arith, ap length q, picked-short ws s (place_of place))))

-- an answer and its newline
pub put-answered : (ws s d e f : List ℕ) (n r : ℕ) (answer : std.Result core.Answer Refusal) → Answered d (heard_from ws s (said answer)) e n 10275
    → Wrote e n (newline ∷ []) f r
    → PutLine d (heard_from ws s (said answer)) f r
unfolding answer_line
put-answered ws s d e f n r answer a w =
    record { wrote = answer-line (heard_from ws s (said answer)) d e f n r 10275 a w; short = omega (arith, a.short, w.place_is) }
