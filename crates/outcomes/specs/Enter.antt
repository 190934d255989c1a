-- The refusals that the calls share, as the code judges them from the number tables and a seat.
use Rattle.std.specs.Prelude.{Result, Ok, Err, Bool, not, cond, ◌&&◌, List, [], ◌∷◌, ℕ, eqb, leb}
use Rattle.std.proofs.Math.Option.{Option, none, some}
use Rattle.rules.specs.Refusals.{Test, first_of, no_session}
use Rattle.tables.specs.Cells.{values_in, stamp_in}
use Rattle.tables.specs.declared.refusal.Refusal.{Refusal}
use Rattle.tables.specs.Refusals.{number_of}
use Rattle.tables.specs.Room.{room_for}
use Rattle.damage.specs.Numbers.{numbers_fit}
use Rattle.lent.specs.declared.seats.Seat.{Seat}

-- the number of a test that did not pass
abbrev pub why_of : Result (Unit {0}) Refusal → Option ℕ
why_of (Ok _) = none
why_of (Err why) = some (number_of why)

-- 1, 2, then some of the rules' tests
unfoldable pub entered_by : List ℕ → List ℕ → List ℕ → List ℕ → List ℕ → List ℕ → ℕ → Bool → List Test → Option ℕ
entered_by clock slots words heads log changes places fit tests =
    cond (room_for clock slots words heads log changes places)
    (cond (fit && numbers_fit clock slots words heads log changes) (first_of tests) (some 2)) (some 1)

-- and 4
abbrev pub placed_by : List ℕ → List ℕ → List ℕ → List ℕ → List ℕ → List ℕ → ℕ → Bool → ℕ → Option ℕ
placed_by clock slots words heads log changes places fit n = entered_by clock slots words heads log changes places fit (no_session n ∷ [])

-- 5: "session not open"
abbrev pub shut : Seat → Test
shut x = (not (eqb x.session.live 1), 5)

-- 2 once more, of a seat that no tables show: a start after the stamp, over 2,048 rows, over 32 entries
unfoldable pub in_reach : ℕ → ℕ → ℕ → ℕ → Bool
in_reach stamp start rows count = leb start stamp && leb rows 2048 && leb count 32

abbrev pub strange : List ℕ → Seat → Test
strange clock x = (not (in_reach (stamp_in clock) x.session.start.0 x.session.rows.0 x.session.count), 2)

-- 6: "value not below C"
abbrev pub unknown : List ℕ → ℕ → Test
unknown clock v = (leb (values_in clock) v, 6)

abbrev pub opened_by : List ℕ → List ℕ → List ℕ → List ℕ → List ℕ → List ℕ → Seat → ℕ → Option ℕ
opened_by clock slots words heads log changes x n =
    entered_by clock slots words heads log changes x.places x.fit (no_session n ∷ shut x ∷ strange clock x ∷ [])

abbrev pub valued_by : List ℕ → List ℕ → List ℕ → List ℕ → List ℕ → List ℕ → Seat → ℕ → ℕ → Option ℕ
valued_by clock slots words heads log changes x n v =
    entered_by clock slots words heads log changes x.places x.fit (no_session n ∷ shut x ∷ strange clock x ∷ unknown clock v ∷ [])
