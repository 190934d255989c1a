-- What the index holds, free of any table: the log, the versions of each value, the sessions, and the clock's counts.
use Rattle.std.specs.Prelude.{Bool, true, false, List, [], ℕ, zero, get_or}
use Rattle.std.proofs.Math.Option.{Option}

-- "a change is a row and a flip set (a set of values)": bit v of `flips` is set where v is in the set
pub record Change : Type 0 where
  pub row : ℕ
  pub flips : ℕ

-- "a kind (commit or tidy)"
pub data Kind : Type 0 where
  commits tidies : Kind

-- "Record k has stamp k, a kind, the row count after it and its changes": the stamp is the record's place, counted from 1
pub record Record : Type 0 where
  pub kind : Kind
  pub rows : ℕ
  pub changes : List Change

abbrev pub Log : Type 0
Log = List Record

-- "each a value, a stamp, a link and a vector": a version stands in the chain of its value, and links to the one after it there
pub record Version : Type 0 where
  pub stamp : ℕ
  pub vector : ℕ → Bool

-- a value's versions, newest first
abbrev pub Chain : Type 0
Chain = List Version

-- "a row with its target (value or absent), or an insert with its value"
pub data Entry : Type 0 where
  alter : ℕ → Option ℕ → Entry
  add : ℕ → Entry

-- "An open session has a start stamp, a start row count and a list"
pub data Session : Type 0 where
  free : Session
  opened : ℕ → ℕ → List Entry → Session

pub record State : Type 0 where
  -- C
  pub values : ℕ
  pub first : ℕ
  pub rows : ℕ
  pub log : Log
  pub chains : List Chain
  -- how many slots are in use
  pub slots : ℕ
  pub sessions : List Session

-- the versions of value v
abbrev pub chain : List Chain → ℕ → Chain
chain cs v = get_or cs v []

-- session i; a place past the table is free
abbrev pub session : State → ℕ → Session
session st i = get_or st.sessions i free

abbrev pub is_free : Session → Bool
is_free free = true
is_free (opened s n es) = false

abbrev pub start_of : Session → ℕ
start_of free = zero
start_of (opened s n es) = s

abbrev pub rows_of : Session → ℕ
rows_of free = zero
rows_of (opened s n es) = n

abbrev pub list_of : Session → List Entry
list_of free = []
list_of (opened s n es) = es
