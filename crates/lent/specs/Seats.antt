-- What a call sees of the session table.
use Rattle.std.specs.Prelude.{Bool, ◌&&◌, List, ℕ, leb, length}
use Rattle.bits.specs.All.{all_below}
use Rattle.tables.specs.declared.session.Session.{Session}
use Rattle.tables.specs.declared.clock.Clock.{Clock}
use Rattle.tables.specs.Clock.{lent_clock}
use Rattle.tables.specs.Sessions.{session_at}
use Rattle.session_damage.specs.Judged.{session_judged}
use Rattle.lent.specs.declared.seats.Seat.{Seat}
use Rattle.lent.specs.Places.{seat_at}

-- there are 16 places, and every one fits
abbrev pub all_fit : List Session → List ℕ → Clock → Bool
all_fit ts log c = leb 16 (length ts) && all_below (λ i. session_judged (session_at ts i) log c) 16

-- the seat of session n
unfoldable pub seat_of : List ℕ → List ℕ → List Session → ℕ → Seat
seat_of clock log ts n = record { places = length ts; fit = all_fit ts log (lent_clock clock); session = seat_at ts n }
