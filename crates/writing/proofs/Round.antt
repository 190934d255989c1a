-- What is written is read back: a number below 10,000, and the numbers of an answer.
use mathlib.Core.Path.{◌≡◌, refl, ◌∙◌}
use mathlib.Core.Bool.{true, false, and-eq-true_iff}
use mathlib.Core.List.{List, [], ◌∷◌, ◌++◌, append-nil, map}
use mathlib.Core.Logic.{◌⊎◌, inl, inr}
use mathlib.Core.Option.{some}
use Prim.Native.Nat.{ℕ, zero, suc, ◌+◌, ◌-◌, ◌*◌, ◌/◌, ◌%◌, ◌<◌, ◌≤◌}
use native.Mathlib.Omega.{arith}
use borrow.Author.Tests.{eq-eqb, ne_eqb, le-leb}
use lib.Dec.{eqb}
use lib.ListN.{length, length-append}
use Rattle.bits.proofs.Cases.{lt-cases}
use Rattle.rules.specs.Calls.{ok}
use Rattle.text.specs.Bytes.{bytes}
use Rattle.fields.specs.Split.{before, split, space}
use Rattle.fields.specs.Number.{is_digit, all_are_digits, value_from, is_number, number}
use Rattle.text.specs.Parse.{with_first, each}
use Rattle.text.specs.Show.{decimal, spaced, show}
use Rattle.text.specs.Feed.{has_byte}
use Rattle.fields.proofs.NumberLaws.{digit-in, digit-no-space}
use Rattle.text.proofs.FeedLaws.{or-none}
use Rattle.writing.proofs.ShowLaws.{decimal_digit, decimal-more, decimal-fits}

-- ---- a number: its bytes are digits, and say it

digits_append : (f : List ℕ) (b : ℕ) → all_are_digits f ≡ true → is_digit b ≡ true → all_are_digits (f ++ b ∷ []) ≡ true
unfolding all_are_digits
digits_append [] b h d = rw d
digits_append (x ∷ f) b h d = let e = (and-eq-true_iff (is_digit x) (all_are_digits f)).0 h in rw (e.0, digits_append f b e.1 d)

value-append : (x : ℕ) (f : List ℕ) (b : ℕ) → value_from x (f ++ b ∷ []) ≡ value_from x f * 10 + (b - 48)
unfolding value_from
value-append x [] b = refl
value-append x (c ∷ f) b = value-append (x * 10 + (c - 48)) f b

-- what is to be said of a number's bytes
record Said (f : List ℕ) (n : ℕ) : Type 0 where
  all_digits : all_are_digits f ≡ true
  value-is : value_from 0 f ≡ n
  some_byte : 1 ≤ length f

-- it is so of every number
decimal-says : (k n : ℕ) → n ≤ k → Said (decimal n) n
unfolding all_are_digits value_from
decimal-says zero n h =
    rw (decimal_digit n (omega arith))
    record { all_digits = rw (digit-in (48 + n) (omega arith) (omega arith)); value-is = omega arith; some_byte = omega arith }
decimal-says (suc k) n h = go (lt-cases n 10) (decimal-says k (n / 10))
  where
    go : (n < 10) ⊎ (10 ≤ n) → (n / 10 ≤ k → Said (decimal (n / 10)) (n / 10)) → Said (decimal n) n
    go (inl l) r =
        rw (decimal_digit n l)
        record { all_digits = rw (digit-in (48 + n) (omega arith) (omega arith)); value-is = omega arith; some_byte = omega arith }
    go (inr l) r =
        let f = decimal (n / 10) in
        let w = r (omega arith) in
        rw (decimal-more n l)
        record {
          all_digits = digits_append f (48 + n % 10) w.all_digits (digit-in (48 + n % 10) (omega arith) (omega arith));
          value-is = value-append 0 f (48 + n % 10) ∙ omega (arith, w.value-is);
          some_byte = omega (arith, w.some_byte, length-append f ((48 + n % 10) ∷ []));
        }

-- what is written for a number below 10,000 is read as that number
pub round_trip : (n : ℕ) → n < 10000 → number (decimal n) ≡ some n
unfolding number is_number
round_trip n h =
    let w = decimal-says n n (omega arith) in
    rw (w.all_digits, le-leb 1 (length (decimal n)) w.some_byte, le-leb (length (decimal n)) 4 (decimal-fits 3 n h), w.value-is)

-- ---- the fields of an answer are `ok` and its numbers

split-on : (s : ℕ) (f l : List ℕ) → has_byte s f ≡ false → split s (f ++ s ∷ l) ≡ f ∷ split s l
unfolding split before has_byte
split-on s [] l h = rw (eq-eqb s s refl)
split-on s (b ∷ f) l h = let c = or-none (eqb b s) (has_byte s f) h in rw (c.0, split-on s f l c.1)

split-only : (s : ℕ) (f : List ℕ) → has_byte s f ≡ false → split s f ≡ f ∷ []
unfolding split before has_byte
split-only s [] h = refl
split-only s (b ∷ f) h = let c = or-none (eqb b s) (has_byte s f) h in rw (c.0, split-only s f c.1)

-- digits are no spaces
no-space : (f : List ℕ) → all_are_digits f ≡ true → has_byte space f ≡ false
unfolding all_are_digits has_byte
no-space [] h = refl
no-space (b ∷ f) h =
    let e = (and-eq-true_iff (is_digit b) (all_are_digits f)).0 h in
    rw (ne_eqb b space (digit-no-space b e.0), no-space f e.1)

fields_split : (f : List ℕ) (ns : List ℕ) → has_byte space f ≡ false → split space (f ++ spaced ns) ≡ f ∷ map decimal ns
unfolding spaced
fields_split f [] h = rw (append-nil f) (split-only space f h)
fields_split f (n ∷ ns) h =
    split-on space f (decimal n ++ spaced ns) h
    ∙ rw (fields_split (decimal n) ns (no-space (decimal n) (decimal-says n n (omega arith)).all_digits))

pub ok-fields : (ns : List ℕ) → split space (show (ok ns)) ≡ bytes "ok" ∷ map decimal ns
unfolding show has_byte
ok-fields ns = fields_split (bytes "ok") ns refl

-- each number is below 10,000
unfoldable pub AllBelow : List ℕ → Type 0
AllBelow [] = Unit
AllBelow (n ∷ ns) = (n < 10000) × AllBelow ns

pub numbers-back : (ns : List ℕ) → AllBelow ns → each number (map decimal ns) ≡ some ns
unfolding each with_first AllBelow
numbers-back [] h = refl
numbers-back (n ∷ ns) h = rw (round_trip n h.0, numbers-back ns h.1)
