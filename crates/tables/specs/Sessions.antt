-- The session struct: free, just opened, with an entry set; the session at a place of the table.
use Rattle.std.specs.Prelude.{List, ℕ, get_or, set, replicate}
use Rattle.tables.specs.declared.session.Session.{Session}
use Rattle.tables.specs.declared.counts.Stamp.{Stamp}
use Rattle.tables.specs.declared.counts.Row.{Row}

-- "A free session's cells are all 0."
unfoldable pub freed : Session
freed = record { live = 0; start = record { 0 = 0 }; rows = record { 0 = 0 }; count = 0; at = replicate 32 0; to = replicate 32 0 }

-- "opens a free session with the current stamp and row count"
unfoldable pub begun : Stamp → Row → Session
begun s n = record { live = 1; start = s; rows = n; count = 0; at = replicate 32 0; to = replicate 32 0 }

-- entry i set, and n entries
unfoldable pub with_entry : Session → ℕ → ℕ → ℕ → ℕ → Session
with_entry x i at to n =
    record { live = x.live; start = x.start; rows = x.rows; count = n; at = set x.at i at; to = set x.to i to }

-- the session at a place; a place past the table is free
abbrev pub session_at : List Session → ℕ → Session
session_at sessions i = get_or sessions i freed
