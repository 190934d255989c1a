-- What an accepted call does and answers, one call whole, and a run of calls with its transcript.
use Rattle.std.proofs.Math.Option.{Option, none, some}
use Rattle.std.specs.Prelude.{List, [], ◌∷◌, ◌++◌, ℕ, suc, ◌+◌, ltb, length, set, replicate}
use Rattle.bits.specs.Tab.{tab}
use Rattle.rules.specs.Limits.{max_sessions}
use Rattle.rules.specs.State.{Record, commits, tidies, Version, Chain, Entry, add, Session, free, opened, State, chain}
use Rattle.rules.specs.State.{session, start_of, rows_of, list_of}
use Rattle.rules.specs.Log.{stamp_of, grown}
use Rattle.rules.specs.Versions.{queried, queried_rows, flip_count}
use Rattle.rules.specs.Lists.{put, inserts}
use Rattle.rules.specs.Commit.{commit_changes}
use Rattle.rules.specs.Tidy.{moved, tidy_changes}
use Rattle.rules.specs.Calls.{Column, cell, holds, Call, create, begin, query, span, read, update, delete, insert, commit}
use Rattle.rules.specs.Calls.{tidy, abort, Answer, refused, ok, value, listed, found}
use Rattle.rules.specs.Refusals.{read_in, spanned_in, refusal}

-- "It makes slots 0 to C-1 with stamp 0, one per value, no links"
abbrev pub first_chain : Column → ℕ → Chain
first_chain col v = record { stamp = 0; vector = λ r. holds (cell col r) v } ∷ []

-- "stamp 0; all sessions free"
unfoldable pub created : ℕ → Column → State
created C col =
    record {
      values = C;
      first = length col;
      rows = length col;
      log = [];
      chains = tab (first_chain col) C;
      slots = C;
      sessions = replicate max_sessions free;
    }

-- one session changed
abbrev pub seated : State → ℕ → Session → State
seated st i x =
    record {
      values = st.values;
      first = st.first;
      rows = st.rows;
      log = st.log;
      chains = st.chains;
      slots = st.slots;
      sessions = set st.sessions i x;
    }

-- "opens a free session with the current stamp and row count. On an open session it answers the start it already has and
-- changes nothing"
abbrev pub beginning : State → ℕ → Session → State × Answer
beginning st i free = (seated st i (opened (stamp_of st.log) st.rows []), ok (stamp_of st.log ∷ st.rows ∷ []))
beginning st i (opened s n es) = (st, ok (s ∷ n ∷ []))

-- "Update, delete, insert write only to the session's list. .. The answer is the list's length."
abbrev pub relisted : State → ℕ → Session → List Entry → State × Answer
relisted st i x es = (seated st i (opened (start_of x) (rows_of x) es), ok (length es ∷ []))

-- the row count after a commit of a list
abbrev pub rows_with : State → List Entry → ℕ
rows_with st es = st.rows + length (inserts es)

abbrev pub commit_record : State → ℕ → List Entry → Record
commit_record st s es = record { kind = commits; rows = rows_with st es; changes = commit_changes st s es }

-- "The new record's stamp is the old stamp plus 1. The session becomes free."
abbrev pub committing : State → ℕ → ℕ → List Entry → State
committing st i s es =
    record {
      values = st.values;
      first = st.first;
      rows = rows_with st es;
      log = grown st.log (commit_record st s es);
      chains = st.chains;
      slots = st.slots;
      sessions = set st.sessions i free;
    }

abbrev pub tidy_record : State → ℕ → ℕ → Record
tidy_record st s v = record { kind = tidies; rows = st.rows; changes = tidy_changes st.log s v }

-- "a new slot for v holds the vector queried at s, linked to the old head, with stamp now plus 1"
abbrev pub tidy_version : State → ℕ → ℕ → Version
tidy_version st s v = record { stamp = suc (stamp_of st.log); vector = queried st.log (chain st.chains v) s v }

-- "the head moves; a tidy record of that stamp .. The session stays open."
abbrev pub tidying : State → ℕ → ℕ → State
tidying st s v =
    record {
      values = st.values;
      first = st.first;
      rows = st.rows;
      log = grown st.log (tidy_record st s v);
      chains = set st.chains v (tidy_version st s v ∷ chain st.chains v);
      slots = suc st.slots;
      sessions = st.sessions;
    }

-- "The answer also gives the flip count and whether a tidy is due: count greater than the threshold"
abbrev pub querying : State → ℕ → ℕ → ℕ → Answer
querying st s v t =
    let n = flip_count st.log (chain st.chains v) s v in
    listed n (ltb t n) (queried_rows st.log (chain st.chains v) s v)

-- what an accepted call does and answers
unfoldable pub effect : State → Call → State × Answer
effect st (create C col) = (created C col, ok (length col ∷ []))
effect st (begin i) = beginning st i (session st i)
effect st (query i v t n) = (st, querying st (start_of (session st i)) v t)
effect st (span i a b n) = (st, found (spanned_in st (session st i) a b))
effect st (read i r) = (st, value (read_in st (session st i) r))
effect st (update i r v) = relisted st i (session st i) (put (list_of (session st i)) r (some v))
effect st (delete i r) = relisted st i (session st i) (put (list_of (session st i)) r none)
effect st (insert i v) = relisted st i (session st i) (list_of (session st i) ++ (add v ∷ []))
effect st (commit i) =
    let x = session st i in
    (committing st i (start_of x) (list_of x), ok (suc (stamp_of st.log) ∷ rows_with st (list_of x) ∷ []))
effect st (tidy i v) =
    let s = start_of (session st i) in
    (tidying st s v, ok (suc (stamp_of st.log) ∷ length (moved st.log s v) ∷ []))
effect st (abort i) = (seated st i free, ok (length (list_of (session st i)) ∷ []))

-- "A refusal answers the number and nothing more; no table, scratch or session cell changes."
abbrev pub unless : State → Option ℕ → State × Answer → State × Answer
unless st (some n) x = (st, refused n)
unless st none x = x

-- one call
unfoldable pub step : State → Call → State × Answer
step st c = unless st (refusal st c) (effect st c)

-- the state after a run of calls, and the run's transcript: each call with its answer
unfoldable pub run : State → List Call → State
run st [] = st
run st (c ∷ cs) = run (step st c).0 cs

unfoldable pub transcript : State → List Call → List (Call × Answer)
transcript st [] = []
transcript st (c ∷ cs) = (c, (step st c).1) ∷ transcript (step st c).0 cs
