-- What a part of a core knows once the core is let in, and what it promises.
use Rattle.std.specs.Prelude.{Result, ◌≡◌, true, List, [], ℕ, ◌≤◌, ◌<◌, replicate}
use Rattle.tables.specs.declared.session.Session.{Session}
use Rattle.tables.specs.declared.refusal.Refusal.{Refusal}
use Rattle.tables.specs.Cells.{Tables, tables, stamp_in}
use Rattle.tables.specs.Sessions.{freed}
use Rattle.tables.specs.Room.{roomy}
use Rattle.tables.specs.Damage.{sound}
use Rattle.outcomes.specs.declared.answers.Answer.{Answer}
use Rattle.outcomes.specs.Said.{said}
use Rattle.outcomes.specs.Outcome.{Outcome, outcome}
use Rattle.outcomes.specs.Calls.{own}
use Rattle.outcomes.specs.Seats.{beside, Leaves}

-- the number tables have room and are not damaged, as they are beside sixteen free sessions; the session's start, its row count
-- and its number of entries are within reach
pub record Usable (clock slots words heads log changes : List ℕ) (x : Session) : Type 0 where
  pub room : roomy (tables clock slots words heads log changes (replicate 16 freed)) ≡ true
  pub good : sound (tables clock slots words heads log changes (replicate 16 freed)) ≡ true
  pub start-old : x.start.0 ≤ stamp_in clock
  pub rows_few : x.rows.0 ≤ 2048
  pub count_low : x.count ≤ 32

-- tables that are not refused by 1 and 2, and x their session n, which is open
pub record OpenIn (t : Tables) (n : ℕ) (x : Session) : Type 0 where
  pub room : roomy t ≡ true
  pub good : sound t ≡ true
  pub place-low : n < 16
  pub own-there : own t n ≡ x
  pub live-one : x.live ≡ 1

-- What a part of a core promises where the session is open.
abbrev pub Settles : (List Session → Tables) → (List Session → Tables) → Session → ℕ → (List Session → List Session) → Result Answer Refusal
    → (Tables → Outcome) → Type 0
Settles before after x n settled a call = Leaves (λ ts. OpenIn (before ts) n x) before after [] settled a call

-- the same of a part that has no table: of any tables and any place
abbrev pub SettlesAny : Session → (ℕ → List Session → List Session) → Result Answer Refusal → (Tables → ℕ → Outcome) → Type 0
SettlesAny x settled a call =
    (n : ℕ) (t : Tables) → OpenIn t n x → outcome (beside t (settled n t.sessions)) [] (said a) ≡ call t n
