-- What the lent tables mean: a state of the rules.
use Rattle.std.specs.Prelude.{cond, List, [], ◌∷◌, ℕ, zero, suc, ◌+◌, ◌-◌, eqb, get_or}
use Rattle.std.proofs.Math.Option.{Option, none, some}
use Rattle.bits.specs.Tab.{tab}
use Rattle.bits.specs.Words.{bit_at}
use Rattle.rules.specs.State.{Change, Kind, commits, tidies, Record, Version, Chain, Entry, alter, add, free, opened, State}
use Rattle.rules.specs.State as rules
use Rattle.tables.specs.declared.session.Session.{Session}
use Rattle.tables.specs.Cells.{Tables, values_in, first_in, stamp_in, rows_in, slots_in, slot_stamp, slot_link, slot_words, head_of}
use Rattle.tables.specs.Cells.{record_kind, record_rows, end_at, change_row, change_set}
use Rattle.tables.specs.Sessions.{session_at}
use Rattle.tables.specs.Stretch.{stretch}

-- a change
abbrev pub change_at : List ℕ → ℕ → Change
change_at changes p = record { row = change_row changes p; flips = change_set changes p }

-- 1 is a commit; 2, and in damaged tables any other number, a tidy
abbrev pub kind_of : ℕ → Kind
kind_of n = cond (eqb n 1) commits tidies

-- record k + 1: "its changes start where those before ended"
unfoldable pub record_at : List ℕ → List ℕ → ℕ → Record
record_at log changes k =
    record {
      kind = kind_of (record_kind log k);
      rows = record_rows log k;
      changes = stretch (change_at changes) (end_at log k) (end_at log (suc k));
    }

-- a version: "row r is bit r mod 64 (bit 0 lowest) of word r div 64"
unfoldable pub version_at : List ℕ → List ℕ → ℕ → Version
version_at slots words i = record { stamp = slot_stamp slots i; vector = bit_at (slot_words words i) }

-- the versions from slot i along the links, at most n of them
unfoldable pub chain_from : List ℕ → List ℕ → ℕ → ℕ → Chain
chain_from slots words zero i = []
chain_from slots words (suc n) i =
    version_at slots words i ∷ cond (eqb (slot_link slots i) 0) [] (chain_from slots words n (slot_link slots i - 1))

-- the versions of v: a link leads to an earlier slot, so that slot i has at most i + 1 of them
unfoldable pub chain_at : List ℕ → List ℕ → List ℕ → ℕ → Chain
chain_at slots words heads v = chain_from slots words (head_of heads v + 1) (head_of heads v)

-- a target cell: 255 is absent
abbrev pub target_of : ℕ → Option ℕ
target_of n = cond (eqb n 255) none (some n)

-- an entry: the row cell 65,535 is an insert
abbrev pub entry_of : ℕ → ℕ → Entry
entry_of at to = cond (eqb at 65535) (add to) (alter at (target_of to))

unfoldable pub entry_at : Session → ℕ → Entry
entry_at x i = entry_of (get_or x.at i 0) (get_or x.to i 0)

-- the list of a session
abbrev pub entries : Session → List Entry
entries x = tab (entry_at x) x.count

-- a session: open where its first cell is 1
unfoldable pub session_of : Session → rules.Session
session_of x = cond (eqb x.live 1) (opened x.start.0 x.rows.0 (entries x)) free

unfoldable pub meaning : Tables → State
meaning t =
    record {
      values = values_in t.clock;
      first = first_in t.clock;
      rows = rows_in t.clock;
      log = tab (record_at t.log t.changes) (stamp_in t.clock);
      chains = tab (chain_at t.slots t.words t.heads) (values_in t.clock);
      slots = slots_in t.clock;
      sessions = tab (λ i. session_of (session_at t.sessions i)) 16;
    }
