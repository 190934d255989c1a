-- Update, delete and insert from the tests on the list on.
use Rattle.std.specs.Prelude.{Result, ◌≡◌, List, [], ◌∷◌, ℕ, ◌≤◌, ◌<◌, length}
use Rattle.rules.specs.State.{session}
use Rattle.rules.specs.Refusals.{Test, first_of, no_row, row_absent, list_full_for, list_full}
use Rattle.tables.specs.declared.session.Session.{Session}
use Rattle.tables.specs.declared.refusal.Refusal.{Refusal}
use Rattle.tables.specs.Cells.{Tables, values_in}
use Rattle.tables.specs.Meaning.{meaning}
use Rattle.history.specs.Read.{ReadReady}
use Rattle.outcomes.specs.Outcome.{Outcome, unless}
use Rattle.outcomes.specs.Calls.{own, spot_of, listed_at, put_back}
use Rattle.outcomes.specs.Seats.{list_answer, relisting}
use Rattle.outcomes.specs.Opened.{Settles}

-- an entry set at a place of session n's list, unless a test refuses
abbrev pub entered : List Test → Tables → ℕ → ℕ → ℕ → ℕ → Outcome
entered tests t n i at to = unless (first_of tests) t [] (put_back t n (listed_at (own t n) i at to))

-- an entry more: 9
unfoldable pub append_of : Tables → ℕ → ℕ → ℕ → Outcome
append_of t n at to = entered (list_full (session (meaning t) n) ∷ []) t n (own t n).count at to

-- a row's target: 9
unfoldable pub target_put : Tables → ℕ → ℕ → ℕ → Outcome
target_put t n row to = entered (list_full_for (session (meaning t) n) row ∷ []) t n (spot_of (own t n) row) row to

-- the same with 7 and 8
unfoldable pub change_of : Tables → ℕ → ℕ → ℕ → Outcome
change_of t n row to =
    let x = session (meaning t) n in
    entered (no_row x row ∷ row_absent (meaning t) x row ∷ list_full_for x row ∷ []) t n (spot_of (own t n) row) row to

-- what the standing value of a row needs; `spot` is where the row stands in the list
pub record Stands (clock slots words heads log changes : List ℕ) (x : Session) (row spot : ℕ) : Type 0 where
  pub clock-room : 6 ≤ length clock
  pub readable : ReadReady slots words heads log changes (values_in clock) x.start.0
  pub count_low : x.count ≤ 32
  pub row_low : row < 65535
  pub spot_is : spot ≡ spot_of x row

-- what update and delete promise from there on, of an open session at any place
abbrev pub ChangesRow : (List Session → Tables) → Session → ℕ → ℕ → Result Session Refusal → Type 0
ChangesRow lent x row to d = (n : ℕ) → Settles lent lent x n (relisting d n) (list_answer d) (λ t. change_of t n row to)
