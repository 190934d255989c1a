-- Laws of a loop that stores a column's bytes.
use Rattle.std.proofs.Common.{◌≡◌, ℕ, suc, ◌+◌, ◌-◌, ◌<◌, ◌≤◌, Bool, true, false, cond, leb, List, [], ◌∷◌, length, set, sym, refl, ◌∙◌, add-one, arith, length-set, leb-true}
use mathlib.Core.Option.{Option, none, some, some-injective, none-ne-some}
use Rattle.std.specs.Prelude.{Some, None}
use Rattle.fields.specs.declared.Field.{Field}
use Rattle.text.specs.declared.cells.Run.{Run}
use Rattle.text.specs.Bytes.{bytes, same}
use Rattle.fields.specs.Split.{space}
use Rattle.fields.specs.Number.{number}
use Rattle.text.specs.Parse.{up_to254, small, with_first, each}
use Rattle.fields.specs.Places.{after, field_by}
use Rattle.text.specs.Cells.{byte_of, or_end, bytes_of, counted, Stored, Filling, Ran, Near}
use Rattle.fields.proofs.SplitLaws.{after-end, after-step}
use Rattle.fields.proofs.NumberLaws.{number-empty}
use Rattle.fields.proofs.FieldLaws.{Took, took, Stuck, stuck, nothing_left, not-read}

-- ---- what is read is small

some-le : (t : Bool) (x y m : ℕ) → (t ≡ true → x ≤ m) → cond t (some x) none ≡ some y → y ≤ m
some-le true x y m h e = let z = some-injective x y e in omega (arith, h refl)
some-le false x y m h e = absurd (none-ne-some y e)

up_le : (o : Option ℕ) (y : ℕ) → up_to254 o ≡ some y → y ≤ 254
unfolding up_to254
up_le none y e = absurd (none-ne-some y e)
up_le (some x) y e = some-le (leb x 254) x y 254 (leb-true x 254) e

small-le : (f : List ℕ) (y : ℕ) → small f ≡ some y → y ≤ 254
unfolding small
small-le f y e = up_le (number f) y e

byte_le : (f : List ℕ) (y : ℕ) → byte_of f ≡ some y → y ≤ 255
unfolding byte_of
byte_le f y e = go (same f (bytes "-")) e
  where
    go : (t : Bool) → cond t (some 255) (small f) ≡ some y → y ≤ 255
    go true q = let z = some-injective 255 y q in omega arith
    go false q = omega (arith, small-le f y q)

-- a value takes a byte or more
pub byte-some : (f : List ℕ) (y : ℕ) → byte_of f ≡ some y → 1 ≤ length f
unfolding byte_of small up_to254 same
byte-some [] y e = absurd (none-ne-some y (rw number-empty at e))
byte-some (b ∷ f) y e = omega arith

-- ---- one field more

count-more : (n x : ℕ) (o : Option (List ℕ)) → counted n (with_first (some x) o) ≡ counted (n + 1) o
unfolding counted with_first
count-more n x none = refl
count-more n x (some l) = let e : n + suc (length l) ≡ n + 1 + length l = omega arith in rw e

module _ (line : List ℕ) (at : ℕ) (r : Field) (e : Some r ≡ field_by byte_of line at) where
  the : Took byte_of line at r
  the = took byte_of line at r e

  pub cell-byte : r.value ≤ 255
  cell-byte = byte_le the.f r.value the.is

  cell-goes : at + 2 ≤ r.next
  cell-goes = omega (arith, byte-some the.f r.value the.is, the.place)

  bytes-step : bytes_of (after space line at) ≡ r.value ∷ bytes_of (after space line r.next)
  unfolding bytes_of or_end
  bytes-step = rw (the.fields, the.is)

  count-step : (n : ℕ) → counted n (each byte_of (after space line at)) ≡ counted (n + 1) (each byte_of (after space line r.next))
  unfolding each
  count-step n = rw (the.fields, the.is) (count-more n r.value (each byte_of (after space line r.next)))

module _ (line : List ℕ) (at : ℕ) (e : None ≡ field_by byte_of line at) (k : at < length line) where
  bytes-stop : bytes_of (after space line at) ≡ []
  unfolding bytes_of or_end
  bytes-stop = go (stuck byte_of line at e)
    where
      go : Stuck byte_of line at → bytes_of (after space line at) ≡ []
      go (nothing_left q) = rw q
      go (not-read f fs q b) = rw (q, b)

  count-stop : (n : ℕ) → counted n (each byte_of (after space line at)) ≡ None
  unfolding each with_first counted
  count-stop n = go (stuck byte_of line at e)
    where
      go : Stuck byte_of line at → counted n (each byte_of (after space line at)) ≡ None
      go (nothing_left q) = let z = sym q ∙ after-step space line at k in cc
      go (not-read f fs q b) = rw (q, b)

-- ---- the loops: what is stored and counted so far, and what is still to come

pub filling-none : (line entry : List ℕ) (start k : ℕ) → Filling line start k entry entry start k
filling-none line entry start k = record { more = omega arith; low = omega arith; room = refl; written = refl; judged = refl }

module _ (line : List ℕ) (at : ℕ) (r : Field) (e : Near line at r) where
  -- it is a byte
  pub near-byte : r.value ≤ 255
  near-byte = cell-byte line at r e.cell-is

  -- the place after it is nearer to the end
  pub near-less : at < length line → length line - r.next < length line - at
  near-less l = omega (arith, cell-goes line at r e.cell-is)

  -- and inside the line
  pub near-inside : r.next < length line
  near-inside = e.inside

module _ (line entry col : List ℕ) (start k at n : ℕ) (g : Filling line start k entry col at n) where
  -- more cells after those
  filling-on : (next : List ℕ) (to m : ℕ) → Filling line at n col next to m → Filling line start k entry next to m
  filling-on next to m f =
      record {
        more = omega (arith, g.more, f.more);
        low = omega (arith, g.low, f.low);
        room = f.room ∙ g.room;
        written = g.written ∙ f.written;
        judged = g.judged ∙ f.judged;
      }

  -- one cell more
  pub filling_step : (r : Field) → Some r ≡ field_by byte_of line at → Filling line start k entry (set col n r.value) r.next (n + 1)
  filling_step r e = filling-on (set col n r.value) r.next (n + 1)
      record {
        more = omega arith;
        low = omega (arith, cell-goes line at r e);
        room = length-set col n r.value;
        written = rw (bytes-step line at r e, add-one);
        judged = count-step line at r e n;
      }

  -- so too one of one digit or two
  pub filling-near : (r : Field) → Near line at r → Filling line start k entry (set col n r.value) r.next (n + 1)
  filling-near r e = filling_step r e.cell-is

  -- what a run answers
  pub filling-ran : at < length line → Ran line start k entry col (record { at = at; n = n })
  filling-ran l = record { filled = g; inside = l }

module _ (line entry col : List ℕ) (start at n : ℕ) (g : Filling line start 0 entry col at n) where
  pub filling-end : length line ≤ at → Stored line start entry col (Some n)
  unfolding bytes_of each counted
  filling-end k =
      let z : n + 0 ≡ n = omega arith in
      record {
        bytes-are = sym (g.written ∙ rw (after-end space line at k));
        count-is = sym (g.judged ∙ rw (after-end space line at k, z));
      }

  -- a run, and what is read after it
  module _ (next : List ℕ) (run : Run) (f : Ran line at n col next run) where
    now : Filling line start 0 entry next run.at run.n
    now = filling-on line entry col start 0 at n g next run.at run.n f.filled

    -- a cell
    pub run_step : (r : Field) → Some r ≡ field_by byte_of line run.at → Filling line start 0 entry (set next run.n r.value) r.next (run.n + 1)
    run_step r e = filling_step line entry next start 0 run.at run.n now r e

    -- after which the end is nearer
    pub run-less : (r : Field) → Some r ≡ field_by byte_of line run.at → at < length line → length line - r.next < length line - at
    run-less r e l = omega (arith, f.filled.more, f.filled.low, cell-goes line run.at r e)

    -- none
    pub run-stop : None ≡ field_by byte_of line run.at → Stored line start entry next None
    run-stop e =
        record {
          bytes-are = sym (now.written ∙ rw (bytes-stop line run.at e f.inside));
          count-is = sym (now.judged ∙ count-stop line run.at e f.inside run.n);
        }
