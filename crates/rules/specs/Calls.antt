-- The calls and their answers: document 01's ten, and K1's span.
use Rattle.std.specs.Prelude.{Bool, false, List, ℕ, eqb, get_or}
use Rattle.std.proofs.Math.Option.{Option, none, some}

-- a plain column: each row holds a value or is absent
abbrev pub Column : Type 0
Column = List (Option ℕ)

-- row r of a column; a row past its end is absent
abbrev pub cell : Column → ℕ → Option ℕ
cell col r = get_or col r none

-- whether what a row has is the value v
abbrev pub holds : Option ℕ → ℕ → Bool
holds none v = false
holds (some a) v = eqb a v

-- a call with its numbers: session, then row, then value, where it has them
pub data Call : Type 0 where
  -- C and a column
  create : ℕ → Column → Call
  begin : ℕ → Call
  -- session, value, the threshold of `due`, the words of the scratch
  query : ℕ → ℕ → ℕ → ℕ → Call
  -- session, first value, last value, the cells of the list
  span : ℕ → ℕ → ℕ → ℕ → Call
  read : ℕ → ℕ → Call
  update : ℕ → ℕ → ℕ → Call
  delete : ℕ → ℕ → Call
  insert : ℕ → ℕ → Call
  commit : ℕ → Call
  tidy : ℕ → ℕ → Call
  abort : ℕ → Call

pub data Answer : Type 0 where
  -- "A refusal answers the number and nothing more"
  refused : ℕ → Answer
  -- create, begin, update, delete, insert, commit, tidy, abort: their numbers
  ok : List ℕ → Answer
  -- read: "the value or says absent"
  value : Option ℕ → Answer
  -- query: the flip count, whether a tidy is due, the rows ascending
  listed : ℕ → Bool → List ℕ → Answer
  -- span: the rows, ascending
  found : List ℕ → Answer
