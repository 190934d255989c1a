-- The plain observer of demand 3. It sees the calls and their answers, and nothing else: it has no log, no flip set, no
-- version and no list, and shares no function on lists with the rules.
use Rattle.std.specs.Prelude.{Bool, false, ◌||◌, cond, List, [], ◌∷◌, ◌++◌, ℕ, suc, ◌+◌, eqb, length, get_or, set, take, replicate}
use Rattle.std.proofs.Math.Option.{Option, none, some}
use Rattle.bits.specs.Bit.{xorb}
use Rattle.bits.specs.Rows.{rows_below}
use Rattle.rules.specs.Calls.{Column, cell, holds, Call, create, begin, query, span, read, update, delete, insert, commit}
use Rattle.rules.specs.Calls.{tidy, abort, Answer, refused, ok, value, listed, found}

-- what a session asked for: that a row hold a value or be absent, or that a new row hold a value
pub data Wish : Type 0 where
  hold : ℕ → Option ℕ → Wish
  grow : ℕ → Wish

-- a column with some wishes met in turn, so that the last one for a row decides; the new rows come after
abbrev pub rewritten : Column → List Wish → Column
rewritten col [] = col
rewritten col (hold r t ∷ ws) = rewritten (set col r t) ws
rewritten col (grow v ∷ ws) = rewritten col ws

abbrev pub new_rows : List Wish → Column
new_rows [] = []
new_rows (hold r t ∷ ws) = new_rows ws
new_rows (grow v ∷ ws) = some v ∷ new_rows ws

abbrev pub met : Column → List Wish → Column
met col ws = rewritten col ws ++ new_rows ws

-- whether a wish is for row r
abbrev pub is_wished : List Wish → ℕ → Bool
is_wished [] r = false
is_wished (hold q t ∷ ws) r = eqb q r || is_wished ws r
is_wished (grow v ∷ ws) r = is_wished ws r

-- how many rows are wished for, each counted once, the new ones too
abbrev pub count_wished : List Wish → ℕ
count_wished [] = 0
count_wished (hold r t ∷ ws) = cond (is_wished ws r) 0 1 + count_wished ws
count_wished (grow v ∷ ws) = 1 + count_wished ws

-- what was accepted: a commit of some wishes, or a tidy of a value with the rows that it moved
pub data Event : Type 0 where
  committed : List Wish → Event
  tidied : ℕ → List ℕ → Event

-- "replaying, on the plain first column and in stamp order, the commits": a tidy shows nothing
abbrev pub replay : Column → List Event → Column
replay col [] = col
replay col (committed ws ∷ h) = replay (met col ws) h
replay col (tidied v rs ∷ h) = replay col h

-- a session as the observer sees it: away, or sitting since so many events, with its wishes as they came
pub data Visitor : Type 0 where
  away : Visitor
  sitting : ℕ → List Wish → Visitor

abbrev pub wishes_of : Visitor → List Wish
wishes_of away = []
wishes_of (sitting k ws) = ws

pub record Observer : Type 0 where
  pub column : Column
  pub events : List Event
  pub visitors : List Visitor

abbrev pub visitor : Observer → ℕ → Visitor
visitor o i = get_or o.visitors i away

-- the column after the commits among the first k events, and after all of them
abbrev pub column_at : Observer → ℕ → Column
column_at o k = replay o.column (take k o.events)

abbrev pub column_now : Observer → Column
column_now o = replay o.column o.events

-- the rows of a column that hold the value v, ascending
abbrev pub holding : Column → ℕ → List ℕ
holding col v = rows_below (λ r. holds (cell col r) v) (length col)

-- how many of some events there are up to the last tidy of v (0: none)
abbrev pub is_tidy_of : ℕ → Event → Bool
is_tidy_of v (committed ws) = false
is_tidy_of v (tidied w rs) = eqb w v

abbrev pub last_from : ℕ → ℕ → ℕ → List Event → ℕ
last_from v n last [] = last
last_from v n last (e ∷ h) = last_from v (suc n) (cond (is_tidy_of v e) (suc n) last) h

abbrev pub last_tidy : ℕ → List Event → ℕ
last_tidy v h = last_from v 0 0 h

-- the rows that hold v in one of two columns only
abbrev pub changed_rows : Column → Column → ℕ → List ℕ
changed_rows old new v = rows_below (λ r. xorb (holds (cell old r) v) (holds (cell new r) v)) (length new)

-- what a tidy of v moves, by a session that sits since k events: the rows that came to v or left it between the last tidy of v
-- (or the first column) and the opening
abbrev pub moved_by : Observer → ℕ → ℕ → List ℕ
moved_by o k v = changed_rows (column_at o (last_tidy v (take k o.events))) (column_at o k) v

-- since an opening, an accepted commit listed or an accepted tidy moved row r
abbrev pub is_in_rows : List ℕ → ℕ → Bool
is_in_rows [] r = false
is_in_rows (q ∷ rs) r = eqb q r || is_in_rows rs r

abbrev pub touches : Event → ℕ → Bool
touches (committed ws) r = is_wished ws r
touches (tidied v rs) r = is_in_rows rs r

-- what the observer notes of an accepted call
abbrev pub sits : Observer → ℕ → Visitor → Observer
sits o i x = record { column = o.column; events = o.events; visitors = set o.visitors i x }

abbrev pub sits_down : Observer → ℕ → Visitor → Observer
sits_down o i away = sits o i (sitting (length o.events) [])
sits_down o i (sitting k ws) = o

abbrev pub wishing : Observer → ℕ → Wish → Visitor → Observer
wishing o i w away = o
wishing o i w (sitting k ws) = sits o i (sitting k (ws ++ (w ∷ [])))

abbrev pub commits_now : Observer → ℕ → Visitor → Observer
commits_now o i away = o
commits_now o i (sitting k ws) =
    record { column = o.column; events = o.events ++ (committed ws ∷ []); visitors = set o.visitors i away }

abbrev pub tidies_now : Observer → ℕ → Visitor → Observer
tidies_now o v away = o
tidies_now o v (sitting k ws) =
    record { column = o.column; events = o.events ++ (tidied v (moved_by o k v) ∷ []); visitors = o.visitors }

unfoldable pub started : Column → Observer
started col = record { column = col; events = []; visitors = replicate 16 away }

unfoldable pub accepts : Observer → Call → Observer
accepts o (create C col) = started col
accepts o (begin i) = sits_down o i (visitor o i)
accepts o (query i v t n) = o
accepts o (span i a b n) = o
accepts o (read i r) = o
accepts o (update i r v) = wishing o i (hold r (some v)) (visitor o i)
accepts o (delete i r) = wishing o i (hold r none) (visitor o i)
accepts o (insert i v) = wishing o i (grow v) (visitor o i)
accepts o (commit i) = commits_now o i (visitor o i)
accepts o (tidy i v) = tidies_now o v (visitor o i)
accepts o (abort i) = sits o i away

-- a refused call is no call
unfoldable pub watches : Observer → Call → Answer → Observer
watches o c (refused n) = o
watches o c (ok ns) = accepts o c
watches o c (value v) = accepts o c
watches o c (listed n d rs) = accepts o c
watches o c (found rs) = accepts o c

-- the observer after a transcript
unfoldable pub observes : Observer → List (Call × Answer) → Observer
observes o [] = o
observes o (p ∷ ps) = observes (watches o p.0 p.1) ps
