-- What a request asks for, and what the code answers for a line: the request, and the bytes that it stores.
use Rattle.std.specs.Prelude.{◌≡◌, ℕ, ◌≤◌, cond, List, [], ◌∷◌, map, length, take, nat_le, ◌==◌, Some, None}
use Rattle.std.specs.Prelude as std
use Rattle.std.proofs.Math.Option.{Option, none, some}
use Rattle.std.proofs.lemmas.List.Edits.{sets}
use Rattle.bits.specs.Column.{value_of}
use Rattle.rules.specs.Limits.{usual_threshold, vector_words}
use Rattle.rules.specs.Calls.{Call, create, begin, query, read, update, delete, insert, commit, tidy, abort}
use Rattle.text.specs.declared.requests.Request.{Request}
use Rattle.text.specs.declared.requests.Request.TheVariants as request
use Rattle.text.specs.Bytes.{bytes, same}
use Rattle.fields.specs.Split.{split, space}
use Rattle.text.specs.Parse.{small, column, longest_line, parse}
use Rattle.fields.specs.Places.{after}
use Rattle.text.specs.Cells.{byte_of, bytes_of}

-- the call of a request; a column's values are the first of the lent bytes
unfoldable pub asked_by : Request → List ℕ → Call
asked_by (request.Column values rows) col = create values (map value_of (take rows col))
asked_by (request.Begin session) col = begin session
asked_by (request.Query session value) col = query session value usual_threshold vector_words
asked_by (request.Read session row) col = read session row
asked_by (request.Update session row value) col = update session row value
asked_by (request.Delete session row) col = delete session row
asked_by (request.Insert session value) col = insert session value
asked_by (request.Commit session) col = commit session
asked_by (request.Tidy session value) col = tidy session value
asked_by (request.Abort session) col = abort session

-- the call of what a line asks for, with the lent bytes as they then are
unfoldable pub asked : std.Option Request → List ℕ → Option Call
asked None col = none
asked (Some r) col = some (asked_by r col)

-- how many of the lent bytes are a column's values
unfoldable pub taken_by : Request → ℕ
taken_by (request.Column values rows) = rows
taken_by (request.Begin session) = 0
taken_by (request.Query session value) = 0
taken_by (request.Read session row) = 0
taken_by (request.Update session row value) = 0
taken_by (request.Delete session row) = 0
taken_by (request.Insert session value) = 0
taken_by (request.Commit session) = 0
taken_by (request.Tidy session value) = 0
taken_by (request.Abort session) = 0

-- so for what a line asks for
unfoldable pub taken : std.Option Request → ℕ
taken None = 0
taken (Some r) = taken_by r

-- ---- the bytes that a line stores

-- some bytes, where C is read
unfoldable pub if_read : Option ℕ → List ℕ → List ℕ
if_read none l = []
if_read (some c) l = l

-- those of a column: its values, up to one that is none
unfoldable pub column_bytes : List (List ℕ) → List ℕ
column_bytes [] = []
column_bytes (c ∷ vs) = if_read (small c) (bytes_of vs)

-- those of a line's fields: only a column stores any
unfoldable pub fields_bytes : List (List ℕ) → List ℕ
fields_bytes [] = []
fields_bytes (w ∷ fs) = cond (same w (bytes "column")) (column_bytes fs) []

-- those of a line: one that is too long stores none
unfoldable pub line_bytes : List ℕ → List ℕ
line_bytes line = cond (nat_le (length line) longest_line) (fields_bytes (split space line)) []

-- what `request` promises: the request asks for what the line means, and the line's bytes stand at the front of the lent
-- ones, which else are kept; a column's values are among them
pub record Requested (line entry exit : List ℕ) (r : std.Option Request) : Type 0 where
  pub means : asked r exit ≡ parse line
  pub bytes-are : exit ≡ sets entry 0 (line_bytes line)
  pub within : taken r ≤ length exit

-- ---- by the fields after the word

-- some numbers, if there are n of them
unfoldable pub exactly : ℕ → Option (List ℕ) → std.Option (List ℕ)
exactly n none = None
exactly n (some l) = cond (length l == n) (Some l) None

-- a request, if there is one
unfoldable pub or_unread : Option Request → std.Option Request
or_unread none = None
or_unread (some r) = Some r

-- the request of a column
abbrev pub column_asked : List (List ℕ) → std.Option Request
column_asked fs = or_unread (column (λ c l. request.Column c (length l)) byte_of fs)

-- a column's request, and the bytes that it stores
pub record Columned (line : List ℕ) (at : ℕ) (entry exit : List ℕ) (r : std.Option Request) : Type 0 where
  pub bytes-are : exit ≡ sets entry 0 (column_bytes (after space line at))
  pub request-is : r ≡ column_asked (after space line at)
