-- What a call sees of the session table, what it does to it, and what a core promises of the whole tables.
use Rattle.std.specs.Prelude.{Result, Ok, Err, ◌≡◌, List, [], ℕ, length}
use Rattle.tables.specs.declared.session.Session.{Session}
use Rattle.tables.specs.declared.refusal.Refusal.{Refusal}
use Rattle.tables.specs.Cells.{Tables, tables}
use Rattle.lent.specs.Places.{put_at, opened_at, freed_at, freed_all}
use Rattle.lent.specs.Seats as lent
use Rattle.lent.specs.declared.seats.Seat.{Seat}
use Rattle.outcomes.specs.declared.answers.Answer.{Answer}
use Rattle.outcomes.specs.declared.answers.Answer.TheVariants.{Count, At}
use Rattle.outcomes.specs.declared.answers.Begun.{Begun}
use Rattle.outcomes.specs.declared.answers.Begun.TheVariants.{Opened, Stands}
use Rattle.outcomes.specs.Said.{said}
use Rattle.outcomes.specs.Outcome.{Outcome, outcome}

-- what a call sees of the session table: how many places were lent, whether each of the sixteen fits, and session n
abbrev pub seat_of : Tables → ℕ → Seat
seat_of t n = lent.seat_of t.clock t.log t.sessions n

-- ---- what a core answers

-- of begin the start and the row count of the session, whether it is opened or stands open
abbrev pub begun_answer : Result Begun Refusal → Result Answer Refusal
begun_answer (Ok (Opened s n)) = Ok (At s n)
begun_answer (Ok (Stands s n)) = Ok (At s n)
begun_answer (Err why) = Err why

-- of update, delete and insert the length of the list that the session then has
abbrev pub list_answer : Result Session Refusal → Result Answer Refusal
list_answer (Ok x) = Ok (Count x.count)
list_answer (Err why) = Err why

-- ---- the session table after the call: a refusal changes none

-- begin opens its session, where it does not stand open
abbrev pub opening : Result Begun Refusal → ℕ → List Session → List Session
opening (Ok (Opened s m)) n ts = opened_at ts n s m
opening (Ok (Stands s m)) n ts = ts
opening (Err why) n ts = ts

-- update, delete and insert put their session back with another list
abbrev pub relisting : Result Session Refusal → ℕ → List Session → List Session
relisting (Ok x) n ts = put_at ts n x
relisting (Err why) n ts = ts

-- commit and abort free their session
abbrev pub freeing : Result Answer Refusal → ℕ → List Session → List Session
freeing (Ok a) n ts = freed_at ts n
freeing (Err why) n ts = ts

-- create frees every one
abbrev pub freeing_all : Result Answer Refusal → List Session → List Session
freeing_all (Ok a) ts = freed_all ts
freeing_all (Err why) ts = ts

-- query, span, read and tidy touch none
abbrev pub untouched : List Session → List Session
untouched ts = ts

-- the tables with another session table
abbrev pub beside : Tables → List Session → Tables
beside t ts = tables t.clock t.slots t.words t.heads t.log t.changes ts

-- ---- what a core promises

-- Whatever the session table is that is so shown: the tables that are left, with the session table as the call leaves it, the
-- further buffers and the answer are what the call's definition says of the whole tables.
abbrev pub Leaves : (List Session → Type 0) → (List Session → Tables) → (List Session → Tables) → List (List ℕ)
    → (List Session → List Session) → Result Answer Refusal → (Tables → Outcome) → Type 0
Leaves shown before after buffers settled a call =
    (ts : List Session) → shown ts → outcome (after (settled ts)) buffers (said a) ≡ call (before ts)

-- of a core: every table that shows this seat
abbrev pub Serves : (List Session → Tables) → (List Session → Tables) → List (List ℕ) → Seat → ℕ
    → (List Session → List Session) → Result Answer Refusal → (Tables → Outcome) → Type 0
Serves before after buffers x n settled a call = Leaves (λ ts. x ≡ seat_of (before ts) n) before after buffers settled a call

-- of create's, which sees how many places there are
abbrev pub Creates : (List Session → Tables) → (List Session → Tables) → ℕ → Result Answer Refusal → (Tables → Outcome) → Type 0
Creates before after places d call = Leaves (λ ts. places ≡ length ts) before after [] (freeing_all d) d call
