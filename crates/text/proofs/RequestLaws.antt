-- Laws of a request: its numbers read one after another, and a column's.
use Rattle.std.proofs.Common.{◌≡◌, ℕ, suc, ◌+◌, ◌<◌, ◌≤◌, cond, eqb, List, ◌++◌, length, take, set, sym, refl, ◌∙◌, append_assoc, append-nil, add-one, arith, eq-eqb, ne_eqb, take_all}
use mathlib.Core.Option.{Option, none, some}
use lib.Seq.{sets, take-suc-set}
use Rattle.std.specs.Prelude.{Some, None}
use Rattle.std.specs.Prelude as std
use Rattle.fields.specs.declared.Field.{Field}
use Rattle.text.specs.declared.requests.Request.TheVariants as request
use Rattle.fields.specs.Split.{space}
use Rattle.fields.specs.Number.{number}
use Rattle.text.specs.Parse.{with_first, each, small, both, column}
use Rattle.fields.specs.Places.{part_at, end_at, after, field_by}
use Rattle.text.specs.Cells.{byte_of, counted, Stored}
use Rattle.text.specs.Asked.{if_read, column_bytes, exactly, or_unread, Columned}
use Rattle.fields.proofs.SplitLaws.{after-end, after-step}
use Rattle.fields.proofs.FieldLaws.{Took, took, Stuck, stuck, nothing_left, not-read}

-- ---- n numbers after a place: i of them are read, and stand at the front of `out`

abbrev pub numbers_at : List ℕ → ℕ → Option (List ℕ)
numbers_at line at = each number (after space line at)

-- what those and the others make
unfoldable pub with_rest : ℕ → List ℕ → ℕ → Option (List ℕ) → std.Option (List ℕ)
with_rest n out i none = None
with_rest n out i (some l) = cond (eqb (i + length l) n) (Some (take i out ++ l)) None

-- one more of them
rest-more : (n : ℕ) (out : List ℕ) (i x : ℕ) (o : Option (List ℕ)) → i < length out
    → with_rest n out i (with_first (some x) o) ≡ with_rest n (set out i x) (i + 1) o
unfolding with_rest with_first
rest-more n out i x none h = refl
rest-more n out i x (some l) h =
    let z : i + suc (length l) ≡ i + 1 + length l = omega arith in
    rw (z, add-one i, take-suc-set out i x h, append_assoc)

-- one too many
rest-over : (n : ℕ) (out : List ℕ) (i : ℕ) (o : Option ℕ) (p : Option (List ℕ)) → i ≡ n → None ≡ with_rest n out i (with_first o p)
unfolding with_rest with_first
rest-over n out i none p h = refl
rest-over n out i (some x) none h = refl
rest-over n out i (some x) (some l) h = rw (ne_eqb (i + suc (length l)) n (λ e. omega arith))

pub numbers-none : (n : ℕ) (line out : List ℕ) (at : ℕ) → exactly n (numbers_at line at) ≡ with_rest n out 0 (numbers_at line at)
unfolding exactly with_rest
numbers-none n line out at = go (numbers_at line at)
  where
    go : (o : Option (List ℕ)) → exactly n o ≡ with_rest n out 0 o
    go none = refl
    go (some l) = let z : 0 + length l ≡ length l = omega arith in rw z

module _ (n : ℕ) (line out : List ℕ) (i next : ℕ) (w : std.Option (List ℕ)) (v : w ≡ with_rest n out i (numbers_at line next)) where
  -- there is a next number
  module _ (r : Field) (e : Some r ≡ field_by number line next) where
    pub number-within : r.next ≤ length line
    number-within = (took number line next r e).within

    pub number-next : i < length out → w ≡ with_rest n (set out i r.value) (i + 1) (numbers_at line r.next)
    unfolding each
    number-next h =
        let t = took number line next r e in
        v ∙ rw (t.fields, t.is) (rest-more n out i r.value (numbers_at line r.next) h)

  -- there is none
  pub number-stuck : None ≡ field_by number line next → i < n → None ≡ w
  unfolding each with_first with_rest
  number-stuck e h = sym (v ∙ go (stuck number line next e))
    where
      go : Stuck number line next → with_rest n out i (numbers_at line next) ≡ None
      go (nothing_left p) = rw (p, ne_eqb (i + 0) n (λ e. omega arith))
      go (not-read f fs p b) = rw (p, b)

  -- a field too many
  pub numbers-over : i ≡ n → next < length line → None ≡ w
  unfolding each
  numbers-over h l =
      let o = number (part_at space line (next + 1)) in
      let p = each number (after space line (end_at space line (next + 1))) in
      rest-over n out i o p h ∙ sym (v ∙ rw (after-step space line next l))

  -- no more fields
  pub numbers-all : i ≡ n → length out ≡ n → length line ≤ next → Some out ≡ w
  unfolding each with_rest
  numbers-all h k l = sym (v ∙ rw (after-end space line next l, eq-eqb (i + 0) n (omega arith), append-nil, take_all i out (omega arith)))

-- ---- the returns of the request of a column

count-not : (o : Option (List ℕ)) → None ≡ counted 0 o → o ≡ none
unfolding counted
count-not none e = refl
count-not (some l) e = cc

count-is : (o : Option (List ℕ)) (n c : ℕ) → Some n ≡ counted 0 o
    → Some (request.Column c n) ≡ or_unread (both (λ c l. request.Column c (length l)) (some c) o)
unfolding counted both or_unread
count-is none n c e = cc
count-is (some l) n c e =
    let k : n ≡ 0 + length l = cc in
    let m : n ≡ length l = omega arith in
    rw m

module _ (line : List ℕ) (at : ℕ) (entry : List ℕ) where
  pub column-stuck : None ≡ field_by small line at → Columned line at entry entry None
  unfolding column_bytes if_read column both or_unread
  column-stuck e = go (stuck small line at e)
    where
      go : Stuck small line at → Columned line at entry entry None
      go (nothing_left p) = record { bytes-are = rw p; request-is = rw p }
      go (not-read f fs p b) = record { bytes-are = rw (p, b); request-is = rw (p, b) }

  module _ (r : Field) (e : Some r ≡ field_by small line at) where
    the : Took small line at r
    the = took small line at r e

    module _ (exit : List ℕ) (s : std.Option ℕ) (g : Stored line r.next entry exit s) where
      stored : exit ≡ sets entry 0 (column_bytes (after space line at))
      unfolding column_bytes if_read
      stored = g.bytes-are ∙ rw (the.fields, the.is)

    pub column-bad : (exit : List ℕ) → Stored line r.next entry exit None → Columned line at entry exit None
    unfolding column both or_unread
    column-bad exit g =
        record {
          bytes-are = stored exit None g;
          request-is = rw (the.fields, the.is, count-not (each byte_of (after space line r.next)) g.count-is);
        }

    pub column-is : (exit : List ℕ) (n : ℕ) → Stored line r.next entry exit (Some n)
        → Columned line at entry exit (Some (request.Column r.value n))
    unfolding column
    column-is exit n g =
        record {
          bytes-are = stored exit (Some n) g;
          request-is = rw (the.fields, the.is) (count-is (each byte_of (after space line r.next)) n r.value g.count-is);
        }
