-- Laws of a whole line: a request by the word's numbers asks for what the line means.
use Rattle.std.proofs.Common.{◌≡◌, ℕ, ◌+◌, ◌*◌, ◌<◌, ◌≤◌, Bool, true, false, cond, leb, List, [], ◌∷◌, map, length, take, drop, sym, refl, ap, ◌∙◌, true≢false, arith, take_at, le-leb, leb-true, eqb, eqb-true, eq-eqb, get_or}
use mathlib.Core.Option.{Option, none, some, some-injective}
use Rattle.std.proofs.lemmas.Option.{none-some}
use Rattle.std.specs.Prelude.{Some, None}
use Rattle.std.specs.Prelude as std
use borrow.Author.Tests.{lt-leb}
use lib.Seq.{sets, sets-eq, length-sets}
use Rattle.bits.specs.Column.{value_of, value_none, value-some}
use Rattle.rules.specs.Limits.{usual_threshold, vector_words}
use Rattle.rules.specs.Calls.{Call, create, begin, query, read, update, delete, insert, commit, tidy, abort}
use Rattle.text.specs.declared.words.Word.{Word}
use Rattle.text.specs.declared.words.Word.TheVariants as word
use Rattle.text.specs.declared.requests.Request.{Request}
use Rattle.text.specs.declared.requests.Request.TheVariants as request
use Rattle.text.specs.Bytes.{bytes, same}
use Rattle.fields.specs.Split.{split, space}
use Rattle.fields.specs.Number.{number}
use Rattle.text.specs.Parse.{with_first, each, when_all, and_then, no_more, one, two, three, up_to254, small, holding, cell_of}
use Rattle.text.specs.Parse.{both, column, word_call, fields_call, longest_line, parse}
use Rattle.fields.specs.Places.{up_to, end_at, after}
use Rattle.text.specs.Words.{or_word, word_of}
use Rattle.text.specs.Cells.{byte_of, or_end, bytes_of}
use Rattle.text.specs.Asked.{asked_by, asked, taken_by, taken, if_read, column_bytes, fields_bytes, line_bytes, Requested}
use Rattle.text.specs.Asked.{exactly, or_unread, column_asked, Columned}
use Rattle.fields.proofs.SplitLaws.{end_fits, take-first, split-start, size, size-split}
use Rattle.text.proofs.ColumnLaws.{byte-some}

-- ---- a word's call, by the code's type

unfoldable pub call_by : Word → List (List ℕ) → Option Call
call_by word.Column fs = column create cell_of fs
call_by word.Begin fs = one begin (each number fs)
call_by word.Query fs = two (λ i v. query i v usual_threshold vector_words) (each number fs)
call_by word.Read fs = two read (each number fs)
call_by word.Update fs = three update (each number fs)
call_by word.Delete fs = two delete (each number fs)
call_by word.Insert fs = two insert (each number fs)
call_by word.Commit fs = one commit (each number fs)
call_by word.Tidy fs = two tidy (each number fs)
call_by word.Abort fs = one abort (each number fs)

unfoldable pub call_of : std.Option Word → List (List ℕ) → Option Call
call_of None fs = none
call_of (Some w) fs = call_by w fs

or-call : (t : Bool) (w : Word) (v : std.Option Word) (fs : List (List ℕ))
    → call_of (or_word t w v) fs ≡ cond t (call_by w fs) (call_of v fs)
unfolding or_word call_of
or-call true w v fs = refl
or-call false w v fs = refl

word-call : (f : List ℕ) (fs : List (List ℕ)) → call_of (word_of f) fs ≡ word_call f fs
unfolding word_call word_of call_of call_by
word-call f fs = simp or-call

-- ---- a column's values as bytes and as what the rows hold

valued : Option ℕ → Option (Option ℕ)
valued none = none
valued (some b) = some (value_of b)

values : Option (List ℕ) → Option (List (Option ℕ))
values none = none
values (some l) = some (map value_of l)

up-valued : (o : Option ℕ) → holding (up_to254 o) ≡ valued (up_to254 o)
unfolding up_to254 holding valued
up-valued none = refl
up-valued (some x) = go (leb x 254) refl
  where
    go : (t : Bool) → leb x 254 ≡ t → holding (cond (leb x 254) (some x) none) ≡ valued (cond (leb x 254) (some x) none)
    go true e = rw (e, value-some x (λ z. omega (arith, leb-true x 254 e)))
    go false e = rw e

cell-valued : (f : List ℕ) → cell_of f ≡ valued (byte_of f)
unfolding cell_of byte_of small valued
cell-valued f = go (same f (bytes "-"))
  where
    go : (t : Bool) → cond t (some none) (holding (up_to254 (number f))) ≡ valued (cond t (some 255) (up_to254 (number f)))
    go true = rw value_none
    go false = up-valued (number f)

first-values : (o : Option ℕ) (p : Option (List ℕ)) → with_first (valued o) (values p) ≡ values (with_first o p)
unfolding with_first valued values
first-values none p = refl
first-values (some x) none = refl
first-values (some x) (some l) = refl

each-values : (fs : List (List ℕ)) → each cell_of fs ≡ values (each byte_of fs)
unfolding each values
each-values [] = refl
each-values (f ∷ fs) = rw (cell-valued f, each-values fs, first-values (byte_of f) (each byte_of fs))

-- where each field is a value, they are all stored
first-stored : (o : Option ℕ) (p : Option (List ℕ)) (l m : List ℕ) → ((k : List ℕ) → p ≡ some k → m ≡ k) → with_first o p ≡ some l
    → or_end o m ≡ l
unfolding with_first or_end
first-stored none p l m h e = cc
first-stored (some x) none l m h e = cc
first-stored (some x) (some k) l m h e = rw (h k refl) (cc)

all-stored : (fs : List (List ℕ)) (l : List ℕ) → each byte_of fs ≡ some l → bytes_of fs ≡ l
unfolding each bytes_of
all-stored [] l e = cc
all-stored (f ∷ fs) l e = first-stored (byte_of f) (each byte_of fs) l (bytes_of fs) (λ k q. all-stored fs k q) e

-- a value takes two bytes or more
byte-size : (o : Option ℕ) (f l : List ℕ) (n : ℕ) → ((x : ℕ) → o ≡ some x → 1 ≤ length f) → 2 * length l ≤ n
    → 2 * length (or_end o l) ≤ length f + 1 + n
unfolding or_end
byte-size none f l n h k = omega arith
byte-size (some x) f l n h k = omega (arith, h x refl)

bytes-size : (fs : List (List ℕ)) → 2 * length (bytes_of fs) ≤ size fs
unfolding bytes_of size
bytes-size [] = omega arith
bytes-size (f ∷ fs) = byte-size (byte_of f) f (bytes_of fs) (size fs) (λ x e. byte-some f x e) (bytes-size fs)

take-sets : (d l : List ℕ) → length l ≤ length d → take (length l) (sets d 0 l) ≡ l
take-sets d l h =
    let e : 0 + length l ≤ length d = omega arith in
    rw (sets-eq l d 0 e, take_at l (drop (0 + length l) d) (length l) refl)

-- ---- a request asks for its word's call, and a column's values are among the lent bytes

pub record Fits (r : std.Option Request) (d : List ℕ) (call : Option Call) : Type 0 where
  pub means : asked r d ≡ call
  pub within : taken r ≤ length d

unread-fits : (d : List ℕ) → Fits None d none
unfolding asked taken
unread-fits d = record { means = refl; within = omega arith }

fits_both : (o : Option ℕ) (p : Option (List ℕ)) (m d : List ℕ) → ((l : List ℕ) → p ≡ some l → m ≡ l) → length m ≤ length d
    → Fits (or_unread (both (λ c l. request.Column c (length l)) o p)) (sets d 0 (if_read o m)) (both create o (values p))
unfolding both or_unread if_read values asked asked_by taken taken_by
fits_both none p m d h k = unread-fits d
fits_both (some c) none m d h k = unread-fits (sets d 0 m)
fits_both (some c) (some l) m d h k =
    let e : m ≡ l = h l refl in
    record {
      means = rw (← e, take-sets d m k);
      within = omega (arith, length-sets d 0 m, ap length e);
    }

fits-column : (fs : List (List ℕ)) (d : List ℕ) → size fs ≤ 2 * length d
    → Fits (column_asked fs) (sets d 0 (column_bytes fs)) (column create cell_of fs)
unfolding column column_bytes or_unread size
fits-column [] d h = unread-fits d
fits-column (c ∷ vs) d h =
    rw (each-values vs) (fits_both (small c) (each byte_of vs) (bytes_of vs) d (all-stored vs) (omega (arith, bytes-size vs)))

-- ---- so many numbers make a call, and others none

-- where there are n numbers, they are these
exact-is : (n : ℕ) (l : List ℕ) (o : Option (List ℕ)) → Some l ≡ exactly n o → (o ≡ some l) × (length l ≡ n)
unfolding exactly
exact-is n l none e = cc
exact-is n l (some m) e = go (eqb (length m) n) refl e
  where
    go : (t : Bool) → eqb (length m) n ≡ t → Some l ≡ cond t (Some m) None → (some m ≡ some l) × (length l ≡ n)
    go true q k = let z : l ≡ m = cc in rw z (refl, eqb-true (length m) n q)
    go false q k = cc

-- where there are not, there is no list of this length
exact-not : (n : ℕ) (l : List ℕ) (o : Option (List ℕ)) → None ≡ exactly n o → o ≡ some l → length l ≡ n → ⊥
unfolding exactly
exact-not n l none e q h = cc
exact-not n l (some m) e q h =
    let z : m ≡ l = some-injective m l q in
    let k : eqb (length m) n ≡ true = eq-eqb (length m) n (ap length z ∙ h) in
    let w : None ≡ Some m = rw k at e in
    none-some m w

module _ {A : Type 0} where
  one-is : (make : ℕ → A) (l : List ℕ) → length l ≡ 1 → one make (some l) ≡ some (make (get_or l 0 0))
  unfolding when_all and_then no_more
  one-is make [] h = absurd (omega arith)
  one-is make (a ∷ []) h = refl
  one-is make (a ∷ b ∷ l) h = absurd (omega arith)

  one-not : (make : ℕ → A) (o : Option (List ℕ)) → ((l : List ℕ) → o ≡ some l → length l ≡ 1 → ⊥) → one make o ≡ none
  unfolding when_all and_then no_more
  one-not make none h = refl
  one-not make (some []) h = refl
  one-not make (some (a ∷ [])) h = absurd (h (a ∷ []) refl refl)
  one-not make (some (a ∷ b ∷ l)) h = refl

  two-is : (make : ℕ → ℕ → A) (l : List ℕ) → length l ≡ 2 → two make (some l) ≡ some (make (get_or l 0 0) (get_or l 1 0))
  unfolding when_all and_then no_more
  two-is make [] h = absurd (omega arith)
  two-is make (a ∷ []) h = absurd (omega arith)
  two-is make (a ∷ b ∷ []) h = refl
  two-is make (a ∷ b ∷ c ∷ l) h = absurd (omega arith)

  two-not : (make : ℕ → ℕ → A) (o : Option (List ℕ)) → ((l : List ℕ) → o ≡ some l → length l ≡ 2 → ⊥) → two make o ≡ none
  unfolding when_all and_then no_more
  two-not make none h = refl
  two-not make (some []) h = refl
  two-not make (some (a ∷ [])) h = refl
  two-not make (some (a ∷ b ∷ [])) h = absurd (h (a ∷ b ∷ []) refl refl)
  two-not make (some (a ∷ b ∷ c ∷ l)) h = refl

  three-is : (make : ℕ → ℕ → ℕ → A) (l : List ℕ) → length l ≡ 3
      → three make (some l) ≡ some (make (get_or l 0 0) (get_or l 1 0) (get_or l 2 0))
  unfolding when_all and_then no_more
  three-is make [] h = absurd (omega arith)
  three-is make (a ∷ []) h = absurd (omega arith)
  three-is make (a ∷ b ∷ []) h = absurd (omega arith)
  three-is make (a ∷ b ∷ c ∷ []) h = refl
  three-is make (a ∷ b ∷ c ∷ d ∷ l) h = absurd (omega arith)

  three-not : (make : ℕ → ℕ → ℕ → A) (o : Option (List ℕ)) → ((l : List ℕ) → o ≡ some l → length l ≡ 3 → ⊥) → three make o ≡ none
  unfolding when_all and_then no_more
  three-not make none h = refl
  three-not make (some []) h = refl
  three-not make (some (a ∷ [])) h = refl
  three-not make (some (a ∷ b ∷ [])) h = refl
  three-not make (some (a ∷ b ∷ c ∷ [])) h = absurd (h (a ∷ b ∷ c ∷ []) refl refl)
  three-not make (some (a ∷ b ∷ c ∷ d ∷ l)) h = refl

-- ---- a word that is followed by numbers: how many, and the request of these; a column is followed by others

abbrev pub is_column : Word → Bool
is_column word.Column = true
is_column word.Begin = false
is_column word.Query = false
is_column word.Read = false
is_column word.Update = false
is_column word.Delete = false
is_column word.Insert = false
is_column word.Commit = false
is_column word.Tidy = false
is_column word.Abort = false

abbrev pub how_many : Word → ℕ
how_many word.Column = 0
how_many word.Begin = 1
how_many word.Query = 2
how_many word.Read = 2
how_many word.Update = 3
how_many word.Delete = 2
how_many word.Insert = 2
how_many word.Commit = 1
how_many word.Tidy = 2
how_many word.Abort = 1

abbrev pub request_of : Word → List ℕ → Request
request_of word.Column l = request.Column 0 0
request_of word.Begin l = request.Begin (get_or l 0 0)
request_of word.Query l = request.Query (get_or l 0 0) (get_or l 1 0)
request_of word.Read l = request.Read (get_or l 0 0) (get_or l 1 0)
request_of word.Update l = request.Update (get_or l 0 0) (get_or l 1 0) (get_or l 2 0)
request_of word.Delete l = request.Delete (get_or l 0 0) (get_or l 1 0)
request_of word.Insert l = request.Insert (get_or l 0 0) (get_or l 1 0)
request_of word.Commit l = request.Commit (get_or l 0 0)
request_of word.Tidy l = request.Tidy (get_or l 0 0) (get_or l 1 0)
request_of word.Abort l = request.Abort (get_or l 0 0)

fits-some : (w : Word) → is_column w ≡ false → (fs : List (List ℕ)) (l d : List ℕ) → each number fs ≡ some l → length l ≡ how_many w
    → Fits (Some (request_of w l)) d (call_by w fs)
unfolding call_by asked asked_by taken taken_by
fits-some word.Column q fs l d e h = absurd (true≢false q)
fits-some word.Begin q fs l d e h = record { means = rw e (sym (one-is begin l h)); within = omega arith }
fits-some word.Query q fs l d e h =
    record { means = rw e (sym (two-is (λ i v. query i v usual_threshold vector_words) l h)); within = omega arith }
fits-some word.Read q fs l d e h = record { means = rw e (sym (two-is read l h)); within = omega arith }
fits-some word.Update q fs l d e h = record { means = rw e (sym (three-is update l h)); within = omega arith }
fits-some word.Delete q fs l d e h = record { means = rw e (sym (two-is delete l h)); within = omega arith }
fits-some word.Insert q fs l d e h = record { means = rw e (sym (two-is insert l h)); within = omega arith }
fits-some word.Commit q fs l d e h = record { means = rw e (sym (one-is commit l h)); within = omega arith }
fits-some word.Tidy q fs l d e h = record { means = rw e (sym (two-is tidy l h)); within = omega arith }
fits-some word.Abort q fs l d e h = record { means = rw e (sym (one-is abort l h)); within = omega arith }

call-none : (w : Word) → is_column w ≡ false → (fs : List (List ℕ)) → ((l : List ℕ) → each number fs ≡ some l → length l ≡ how_many w → ⊥)
    → call_by w fs ≡ none
unfolding call_by
call-none word.Column q fs h = absurd (true≢false q)
call-none word.Begin q fs h = one-not begin (each number fs) h
call-none word.Query q fs h = two-not (λ i v. query i v usual_threshold vector_words) (each number fs) h
call-none word.Read q fs h = two-not read (each number fs) h
call-none word.Update q fs h = three-not update (each number fs) h
call-none word.Delete q fs h = two-not delete (each number fs) h
call-none word.Insert q fs h = two-not insert (each number fs) h
call-none word.Commit q fs h = one-not commit (each number fs) h
call-none word.Tidy q fs h = two-not tidy (each number fs) h
call-none word.Abort q fs h = one-not abort (each number fs) h

-- ---- only a column stores bytes

unfoldable pub bytes_by : Word → List (List ℕ) → List ℕ
bytes_by w fs = cond (is_column w) (column_bytes fs) []

unfoldable pub bytes_for : std.Option Word → List (List ℕ) → List ℕ
bytes_for None fs = []
bytes_for (Some w) fs = bytes_by w fs

or_bytes : (t : Bool) (w : Word) (v : std.Option Word) (fs : List (List ℕ))
    → bytes_for (or_word t w v) fs ≡ cond t (bytes_by w fs) (bytes_for v fs)
unfolding or_word bytes_for
or_bytes true w v fs = refl
or_bytes false w v fs = refl

either : (t : Bool) (l : List ℕ) → cond t l l ≡ l
either true l = refl
either false l = refl

word_bytes : (f : List ℕ) (fs : List (List ℕ)) → bytes_for (word_of f) fs ≡ cond (same f (bytes "column")) (column_bytes fs) []
unfolding word_of bytes_by bytes_for
word_bytes f fs = simp (or_bytes, either)

-- ---- the returns of `request`

pub line-long : (line entry : List ℕ) → 8192 < length line → Requested line entry entry None
unfolding parse line_bytes longest_line asked taken
line-long line entry h =
    record {
      means = rw (lt-leb (length line) 8192 h);
      bytes-are = rw (lt-leb (length line) 8192 h);
      within = omega arith;
    }

module _ (line entry : List ℕ) (at : ℕ) (short : length line ≤ 8192) (room : 4096 ≤ length entry) (a : at ≡ end_at space line 0) where
  by_word : (o : std.Option Word) (exit : List ℕ) (r : std.Option Request) → o ≡ word_of (take at line)
      → exit ≡ sets entry 0 (bytes_for o (after space line at))
      → (size (after space line at) ≤ 2 * length entry → Fits r exit (call_of o (after space line at)))
      → Requested line entry exit r
  unfolding parse line_bytes fields_call fields_bytes longest_line size
  by_word o exit r e c f =
      let fs = after space line at in
      let wo : o ≡ word_of (up_to space line) = e ∙ rw (take-first space line at a) in
      let s : split space line ≡ up_to space line ∷ fs = split-start space line at a in
      let sz : length line + 1 ≡ size (up_to space line ∷ fs) = sym (size-split space line) ∙ ap size s in
      let g : Fits r exit (call_of o fs) = f (omega (arith, sz)) in
      record {
        means = g.means ∙ rw (le-leb (length line) 8192 short, s, wo, word-call (up_to space line) fs);
        bytes-are = c ∙ rw (le-leb (length line) 8192 short, s, wo, word_bytes (up_to space line) fs);
        within = g.within;
      }

  -- no word
  pub line-unread : None ≡ word_of (take at line) → Requested line entry entry None
  unfolding bytes_for call_of
  line-unread e = by_word None entry None e refl (λ h. unread-fits entry)

  module _ (w : Word) (e : Some w ≡ word_of (take at line)) where
    pub line-column : (exit : List ℕ) (r : std.Option Request) → w ≡ word.Column → Columned line at entry exit r → Requested line entry exit r
    unfolding bytes_for bytes_by call_of call_by
    line-column exit r i q =
        by_word (Some w) exit r e (q.bytes-are ∙ rw i)
        (λ h. rw (i, q.request-is, q.bytes-are) (fits-column (after space line at) entry h))

    -- one that is followed by numbers: there are as many as it takes, or not
    module _ (v : Word) (i : w ≡ v) (k : is_column v ≡ false) where
      pub line-some : (l : List ℕ) → Some l ≡ exactly (how_many v) (each number (after space line at))
          → Requested line entry entry (Some (request_of v l))
      unfolding bytes_for bytes_by call_of
      line-some l q =
          let p = exact-is (how_many v) l (each number (after space line at)) q in
          by_word (Some w) entry (Some (request_of v l)) e (rw (i, k)) (λ h. rw i (fits-some v k (after space line at) l entry p.0 p.1))

      pub line-none : None ≡ exactly (how_many v) (each number (after space line at)) → Requested line entry entry None
      unfolding bytes_for bytes_by call_of asked taken
      line-none q =
          let c = call-none v k (after space line at) (λ l. exact-not (how_many v) l (each number (after space line at)) q) in
          by_word (Some w) entry None e (rw (i, k)) (λ h. record { means = rw (i, c); within = omega arith })

-- where the first field ends, there is a place of the line
pub first-within : (line : List ℕ) (at : ℕ) → at ≡ end_at space line 0 → at ≤ length line
first-within line at e = rw e (end_fits space line 0 (omega arith))
