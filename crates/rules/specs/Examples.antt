-- The run printed in document 01, its continuations P6 to P9, and the statement of the examples marked P as one table.
use Rattle.std.specs.Prelude.{◌≡◌, false, List, [], ◌∷◌, ◌++◌, map, ℕ, get_or, take}
use Rattle.std.proofs.Math.Option.{some}
use Rattle.bits.specs.Bit.{bit, set_bit}
use Rattle.bits.specs.Words.{bit_at}
use Rattle.bits.specs.Rows.{rows_below}
use Rattle.rules.specs.Limits.{max_rows}
use Rattle.rules.specs.State.{Change, Record, State, chain}
use Rattle.rules.specs.Versions.{newest, spanned_rows}
use Rattle.rules.specs.Calls.{Column, Call, create, begin, query, span, read, update, insert, commit, tidy, abort, Answer}
use Rattle.rules.specs.Calls.{refused, ok, value, listed, found}
use Rattle.rules.specs.Step.{first_chain, created, step, run}

-- `column 4 1 2 0 1`
unfoldable pub first_column : Column
first_column = some 1 ∷ some 2 ∷ some 0 ∷ some 1 ∷ []

unfoldable pub start : State
start = created 4 first_column

-- a query as the step program makes it: threshold 8, scratch of 32 words
abbrev pub asks : ℕ → ℕ → Call
asks i v = query i v 8 32

-- the run of document 01 from `column` on, a line each
unfoldable pub printed : List Call
printed =
    create 4 first_column ∷ begin 0 ∷ begin 1 ∷ update 0 0 3 ∷ commit 0 ∷ asks 1 1 ∷ begin 0 ∷ asks 0 1 ∷ tidy 0 3 ∷ asks 0 3
    ∷ update 1 0 2 ∷ commit 1
    ∷ abort 1 ∷ []

-- "Continuing: P6 `begin 1` starts at 2; `update 1 0 2` and `commit 1` .. P7 `begin 0` there"
unfoldable pub printed₆ : List Call
printed₆ = begin 1 ∷ update 1 0 2 ∷ commit 1 ∷ begin 0 ∷ []

-- "P8 after `abort 0`, `begin 0`, `begin 1`, then `insert 1 2`, `commit 1` .., `tidy 0 2`"
unfoldable pub printed₈ : List Call
printed₈ = abort 0 ∷ begin 0 ∷ begin 1 ∷ insert 1 2 ∷ commit 1 ∷ tidy 0 2 ∷ []

-- "P9 `column 1` makes 0 rows; a query of 0 lists none."
unfoldable pub printed₉ : List Call
printed₉ = create 1 [] ∷ begin 0 ∷ asks 0 0 ∷ []

-- Not in the document: two tidies empty the set of row 0, and a commit builds on it
unfoldable pub emptying : List Call
emptying =
    begin 0 ∷ update 0 0 3 ∷ commit 0 ∷ begin 0 ∷ tidy 0 3 ∷ abort 0 ∷ begin 0 ∷ tidy 0 1 ∷ abort 0 ∷ begin 0 ∷ update 0 0 2
    ∷ commit 0 ∷ begin 0
    ∷ asks 0 1 ∷ []

-- row 0 goes to 3 and back to 1, so that its set is empty again
unfoldable pub returning : List Call
returning = begin 0 ∷ update 0 0 3 ∷ commit 0 ∷ begin 0 ∷ update 0 0 1 ∷ commit 0 ∷ begin 0 ∷ asks 0 3 ∷ []

-- a second change of row 0
unfoldable pub replacing : List Call
replacing = begin 0 ∷ update 0 0 3 ∷ update 0 0 2 ∷ commit 0 ∷ begin 0 ∷ read 0 0 ∷ []

-- "a tidy by the same session too": it moves the row that the session has listed
unfoldable pub overtaking : List Call
overtaking = begin 0 ∷ update 0 0 3 ∷ commit 0 ∷ begin 0 ∷ update 0 0 2 ∷ tidy 0 3 ∷ commit 0 ∷ []

-- K1: a span of the values 0 and 1, with a list of three cells
unfoldable pub spanning : List Call
spanning = begin 0 ∷ span 0 0 1 3 ∷ []

-- the answers of a run, and its last one
abbrev pub answers : State → List Call → List Answer
answers st [] = []
answers st (c ∷ cs) = (step st c).1 ∷ answers (step st c).0 cs

abbrev pub last_answer : State → List Call → Answer
last_answer st [] = refused 0
last_answer st (c ∷ []) = (step st c).1
last_answer st (c ∷ d ∷ cs) = last_answer (step st c).0 (d ∷ cs)

-- the set of some values
unfoldable pub set_of : List ℕ → ℕ
set_of [] = 0
set_of (v ∷ vs) = set_bit (set_of vs) v

-- a record of one change: "row 0 with {1,3}"
abbrev pub row_with : ℕ → List ℕ → List (ℕ × ℕ)
row_with r vs = (r, set_of vs) ∷ []

-- the records of a state, each as its rows with their sets
abbrev pub records_of : State → List (List (ℕ × ℕ))
records_of st = map (λ (x : Record). map (λ (c : Change). (c.row, c.flips)) x.changes) st.log

-- the rows of the newest slot of value v
abbrev pub newest_rows : State → ℕ → List ℕ
newest_rows st v = rows_below (newest (chain st.chains v)).vector max_rows

-- P1 to P10, from whatever state the run's `column` finds
pub record Marked : Type 0 where
  -- "Output, a line each: `ok 4`, `ok 0 4`, .."
  pub printed-answers : (st : State)
      → answers st printed
      ≡ ok (4 ∷ []) ∷ ok (0 ∷ 4 ∷ []) ∷ ok (0 ∷ 4 ∷ []) ∷ ok (1 ∷ []) ∷ ok (1 ∷ 4 ∷ []) ∷ listed 0 false (0 ∷ 3 ∷ []) ∷ ok (1 ∷ 4 ∷ [])
      ∷ listed 1 false (3 ∷ []) ∷ ok (2 ∷ 1 ∷ []) ∷ listed 1 false (0 ∷ []) ∷ ok (1 ∷ []) ∷ refused 12 ∷ ok (1 ∷ []) ∷ []
  -- "record 1 is row 0 with {1,3}"
  pub p1 : (st : State) → records_of (run st (take 5 printed)) ≡ row_with 0 (1 ∷ 3 ∷ []) ∷ []
  -- "record 2 is row 0 with {1}"
  pub p2 : (st : State) → records_of (run st (take 9 printed)) ≡ row_with 0 (1 ∷ 3 ∷ []) ∷ row_with 0 (1 ∷ []) ∷ []
  -- "value 3's new slot has row 0 only"
  pub p3 : (st : State) → newest_rows (run st (take 9 printed)) 3 ≡ 0 ∷ []
  -- "session 1 lists rows 0 and 3 for value 1 after commit 1"
  pub p4 : (st : State) → last_answer st (take 6 printed) ≡ listed 0 false (0 ∷ 3 ∷ [])
  -- "its commit conflicts"
  pub p5 : (st : State) → last_answer st (take 12 printed) ≡ refused 12
  -- "P6 `begin 1` starts at 2; `update 1 0 2` and `commit 1` write record 3, row 0 with {1,2,3}"
  pub p6-start : (st : State) → last_answer st (printed ++ take 1 printed₆) ≡ ok (2 ∷ 4 ∷ [])
  pub p6-record : (st : State)
      → records_of (run st (printed ++ take 3 printed₆)) ≡ row_with 0 (1 ∷ 3 ∷ []) ∷ row_with 0 (1 ∷ []) ∷ row_with 0 (1 ∷ 2 ∷ 3 ∷ []) ∷ []
  -- "P7 `begin 0` there still answers `ok 1 4`"
  pub p7 : (st : State) → last_answer st (printed ++ printed₆) ≡ ok (1 ∷ 4 ∷ [])
  -- "P8 .. (record 4: row 4 with {2}), `tidy 0 2` is refused by 14"
  pub p8-record : (st : State)
      → records_of (run st (printed ++ printed₆ ++ take 5 printed₈))
      ≡ row_with 0 (1 ∷ 3 ∷ []) ∷ row_with 0 (1 ∷ []) ∷ row_with 0 (1 ∷ 2 ∷ 3 ∷ []) ∷ row_with 4 (2 ∷ []) ∷ []
  pub p8 : (st : State) → last_answer st (printed ++ printed₆ ++ printed₈) ≡ refused 14
  -- "P9 `column 1` makes 0 rows; a query of 0 lists none."
  pub p9 : (st : State) → answers st printed₉ ≡ ok (0 ∷ []) ∷ ok (0 ∷ 0 ∷ []) ∷ listed 0 false [] ∷ []
  -- "P10 row 2,047 is bit 63 of word 31"
  pub p10 : (words : List ℕ) → bit_at words 2047 ≡ bit (get_or words 31 0) 63

-- not in the document: what P1 to P10 leave open of the faults that look right
pub record Caught : Type 0 where
  -- with the emptied set left out of record 3, the older {1} would come back in record 4, and row 0 would be listed too
  pub emptied : last_answer start emptying ≡ listed 0 false (3 ∷ [])
  pub emptied-records : records_of (run start emptying)
      ≡ row_with 0 (1 ∷ 3 ∷ []) ∷ row_with 0 (1 ∷ []) ∷ row_with 0 [] ∷ row_with 0 (2 ∷ 3 ∷ []) ∷ []
  -- with the older {1,3} counted after the newer {}, row 0 would be listed
  pub returned : last_answer start returning ≡ listed 0 false []
  -- with the second change dropped, row 0 would hold 3
  pub replaced : last_answer start replacing ≡ value (some 2)
  -- with tidies passed over, the commit would be accepted
  pub overtaken : last_answer start overtaking ≡ refused 12
  -- K1: with the last value left out, rows 0 and 3 would not be listed; with the rows value by value, row 2 would come first
  pub spanned-rows : last_answer start spanning ≡ found (0 ∷ 2 ∷ 3 ∷ [])
  -- and rows that both values have would be listed twice
  pub listed-once : spanned_rows [] (first_chain first_column 1 ∷ first_chain first_column 1 ∷ []) 0 0 1 ≡ 0 ∷ 3 ∷ []
