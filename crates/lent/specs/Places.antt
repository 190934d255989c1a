-- The session at a place of the lent slice, and the slice with a session put at a place or with every place freed: the first 16
-- places are in use, and no other is read or written.
use Rattle.std.specs.Prelude.{cond, List, ℕ, ltb, set, replicate}
use Rattle.std.proofs.lemmas.List.Edits.{sets}
use Rattle.tables.specs.declared.session.Session.{Session}
use Rattle.tables.specs.declared.counts.Stamp.{Stamp}
use Rattle.tables.specs.declared.counts.Row.{Row}
use Rattle.tables.specs.Sessions.{freed, begun, session_at}

-- the session at place n; a free one where n is no place
unfoldable pub seat_at : List Session → ℕ → Session
seat_at ts n = cond (ltb n 16) (session_at ts n) freed

-- a session put at place i; where i is no place, nothing changes
unfoldable pub put_at : List Session → ℕ → Session → List Session
put_at ts i s = cond (ltb i 16) (set ts i s) ts

-- "all sessions free": every place freed
unfoldable pub freed_all : List Session → List Session
freed_all ts = sets ts 0 (replicate 16 freed)

-- a session opened at place n, and one freed there
abbrev pub opened_at : List Session → ℕ → Stamp → Row → List Session
opened_at ts n start rows = put_at ts n (begun start rows)

abbrev pub freed_at : List Session → ℕ → List Session
freed_at ts n = put_at ts n freed

-- ---- the loop that frees every place: what is left of it, from place i on
abbrev pub freed_from : List Session → ℕ → ℕ → List Session
freed_from ts i n = sets ts i (replicate n freed)
