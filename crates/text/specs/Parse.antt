-- What a line of bytes, without its newline, asks for: the reading half of document 01's "The step program".
-- A line that means none is refused by 19.
use Rattle.std.specs.Prelude.{ℕ, cond, List, [], ◌∷◌, length, nat_le}
use Rattle.std.proofs.Math.Option.{Option, none, some}
use Rattle.rules.specs.Limits.{usual_threshold, vector_words}
use Rattle.rules.specs.Calls.{Call, create, begin, query, read, update, delete, insert, commit, tidy, abort}
use Rattle.text.specs.Bytes.{bytes, same}
use Rattle.fields.specs.Split.{split, space}
use Rattle.fields.specs.Number.{number}

-- ---- some fields, each read in one way

module _ {A : Type 0} where
  -- one more in front; none where one is missing
  unfoldable pub with_first : Option A → Option (List A) → Option (List A)
  with_first none l = none
  with_first (some x) none = none
  with_first (some x) (some l) = some (x ∷ l)

  -- each field as `say` reads it; none where one is not to be read
  unfoldable pub each : (List ℕ → Option A) → List (List ℕ) → Option (List A)
  each say [] = some []
  each say (f ∷ fs) = with_first (say f) (each say fs)

-- ---- "Others take session, then row, then value, where they have them": one number, two or three, and no more

module _ {A : Type 0} where
  -- what the numbers make, where each field is one
  unfoldable pub when_all : (List ℕ → Option A) → Option (List ℕ) → Option A
  when_all make none = none
  when_all make (some l) = make l

  -- a number, and then what the others make
  unfoldable pub and_then : (ℕ → List ℕ → Option A) → List ℕ → Option A
  and_then make [] = none
  and_then make (a ∷ l) = make a l

  -- no more numbers
  unfoldable pub no_more : A → List ℕ → Option A
  no_more x [] = some x
  no_more x (a ∷ l) = none

  -- one number
  abbrev pub one : (ℕ → A) → Option (List ℕ) → Option A
  one make o = when_all (and_then (λ a. no_more (make a))) o

  -- two numbers
  abbrev pub two : (ℕ → ℕ → A) → Option (List ℕ) → Option A
  two make o = when_all (and_then (λ a. and_then (λ b. no_more (make a b)))) o

  -- three numbers
  abbrev pub three : (ℕ → ℕ → ℕ → A) → Option (List ℕ) → Option A
  three make o = when_all (and_then (λ a. and_then (λ b. and_then (λ c. no_more (make a b c))))) o

-- ---- "`column C v v ..` takes `-` for absent; there a number above 254, C too, is 19."

-- "a number above 254" is none
unfoldable pub up_to254 : Option ℕ → Option ℕ
up_to254 none = none
up_to254 (some x) = cond (nat_le x 254) (some x) none

-- a field of a column line as a number
unfoldable pub small : List ℕ → Option ℕ
small f = up_to254 (number f)

-- a value as what a row holds
unfoldable pub holding : Option ℕ → Option (Option ℕ)
holding none = none
holding (some v) = some (some v)

-- "`-` for absent", or a value
unfoldable pub cell_of : List ℕ → Option (Option ℕ)
cell_of f = cond (same f (bytes "-")) (some none) (holding (small f))

module _ {A B : Type 0} where
  -- two parts, of which neither is none
  unfoldable pub both : (ℕ → List B → A) → Option ℕ → Option (List B) → Option A
  both make none l = none
  both make (some c) none = none
  both make (some c) (some l) = some (make c l)

  -- C and the values, each as `say` reads it
  unfoldable pub column : (ℕ → List B → A) → (List ℕ → Option B) → List (List ℕ) → Option A
  column make say [] = none
  column make say (c ∷ vs) = both make (small c) (each say vs)

-- ---- a line

-- "The words are `column`, `begin`, `query`, `read`, `update`, `delete`, `insert`, `commit`, `tidy`, `abort`."
unfoldable pub word_call : List ℕ → List (List ℕ) → Option Call
word_call w fs =
    cond (same w (bytes "column")) (column create cell_of fs) (
    cond (same w (bytes "begin")) (one begin (each number fs)) (
    cond (same w (bytes "query")) (two (λ i v. query i v usual_threshold vector_words) (each number fs)) (
    cond (same w (bytes "read")) (two read (each number fs)) (
    cond (same w (bytes "update")) (three update (each number fs)) (
    cond (same w (bytes "delete")) (two delete (each number fs)) (
    cond (same w (bytes "insert")) (two insert (each number fs)) (
    cond (same w (bytes "commit")) (one commit (each number fs)) (
    cond (same w (bytes "tidy")) (two tidy (each number fs)) (
    cond (same w (bytes "abort")) (one abort (each number fs)) (
    none))))))))))

-- the call of a line's fields: the first is the word
unfoldable pub fields_call : List (List ℕ) → Option Call
fields_call [] = none
fields_call (w ∷ fs) = word_call w fs

-- "a line has at most 8,192 bytes before its newline"
unfoldable pub longest_line : ℕ
longest_line = 8192

-- "Fields are split by one space"; "a longer one is one `no 19`"
unfoldable pub parse : List ℕ → Option Call
parse line = cond (nat_le (length line) longest_line) (fields_call (split space line)) none
