-- A call as it is made on lent tables, what it comes to, and what its caller is told: by the definitions that the outer
-- calls' contracts cite, and by nothing else.
use Rattle.std.specs.Prelude.{List, [], ◌∷◌, ℕ, length}
use Rattle.rules.specs.Calls.{Call, Answer}
use Rattle.rules.specs.Calls as rules
use Rattle.tables.specs.Cells.{Tables}
use Rattle.outcomes.specs.Outcome.{Outcome}
use Rattle.outcomes.specs.Calls.{create_of, begin_of, read_of, update_of, delete_of, insert_of, commit_of, tidy_of, abort_of, column_of}
use Rattle.outcomes.specs.Query.{query_of}
use Rattle.outcomes.specs.Span.{span_of}
use Rattle.follow.specs.Heard.{heard}

-- a call with its arguments: session, then row, then value, where it has them
pub data Ask : Type 0 where
  -- C and the column's bytes
  create : ℕ → List ℕ → Ask
  begin : ℕ → Ask
  -- the lent scratch, session, value, the threshold of `due`
  query : List ℕ → ℕ → ℕ → ℕ → Ask
  -- the lent list, session, first value, last value
  span : List ℕ → ℕ → ℕ → ℕ → Ask
  read : ℕ → ℕ → Ask
  update : ℕ → ℕ → ℕ → Ask
  delete : ℕ → ℕ → Ask
  insert : ℕ → ℕ → Ask
  commit : ℕ → Ask
  tidy : ℕ → ℕ → Ask
  abort : ℕ → Ask

-- the rules' call
abbrev pub call_of : Ask → Call
call_of (create C col) = rules.create C (column_of col)
call_of (begin n) = rules.begin n
call_of (query scratch n v threshold) = rules.query n v threshold (length scratch)
call_of (span list n a b) = rules.span n a b (length list)
call_of (read n r) = rules.read n r
call_of (update n r v) = rules.update n r v
call_of (delete n r) = rules.delete n r
call_of (insert n v) = rules.insert n v
call_of (commit n) = rules.commit n
call_of (tidy n v) = rules.tidy n v
call_of (abort n) = rules.abort n

-- what is lent beside the tables to be written: query's scratch, span's list
abbrev pub buffers_of : Ask → List (List ℕ)
buffers_of (create C col) = []
buffers_of (begin n) = []
buffers_of (query scratch n v threshold) = scratch ∷ []
buffers_of (span list n a b) = list ∷ []
buffers_of (read n r) = []
buffers_of (update n r v) = []
buffers_of (delete n r) = []
buffers_of (insert n v) = []
buffers_of (commit n) = []
buffers_of (tidy n v) = []
buffers_of (abort n) = []

-- what a call comes to: the tables afterwards, the buffers afterwards, and the answer
abbrev pub comes_to : Tables → Ask → Outcome
comes_to t (create C col) = create_of t C col
comes_to t (begin n) = begin_of t n
comes_to t (query scratch n v threshold) = query_of t scratch n v threshold
comes_to t (span list n a b) = span_of t list n a b
comes_to t (read n r) = read_of t n r
comes_to t (update n r v) = update_of t n r v
comes_to t (delete n r) = delete_of t n r
comes_to t (insert n v) = insert_of t n v
comes_to t (commit n) = commit_of t n
comes_to t (tidy n v) = tidy_of t n v
comes_to t (abort n) = abort_of t n

-- what the caller is told: the answer, of a query with the rows of the words that the picker then returns, of a span with the rows
-- that then stand in the first cells of its list
abbrev pub told : Tables → Ask → Answer
told t a = heard (call_of a) (comes_to t a)

-- a run of calls, each on the tables that the one before it left: the tables at its end
abbrev pub tables_after : Tables → List Ask → Tables
tables_after t [] = t
tables_after t (a ∷ asks) = tables_after (comes_to t a).after asks

-- and its transcript
abbrev pub transcript_of : Tables → List Ask → List (Call × Answer)
transcript_of t [] = []
transcript_of t (a ∷ asks) = (call_of a, told t a) ∷ transcript_of (comes_to t a).after asks
