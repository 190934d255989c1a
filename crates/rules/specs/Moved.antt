-- "an accepted tidy moved": the rows that the plain observer notes of a tidy are document 01's moved rows, and those of its record.
use Rattle.std.specs.Prelude.{◌≡◌, true, ◌↔◌, ℕ}
use mathlib.Core.List.{List, map, Memᴰ}
use Rattle.rules.specs.State.{Change, State, session, start_of}
use Rattle.rules.specs.Log.{grown}
use Rattle.rules.specs.Tidy.{moves}
use Rattle.rules.specs.Calls.{tidy}
use Rattle.rules.specs.Step.{tidy_record, step}
use Rattle.rules.specs.Plain.{Wish, sitting, Observer, visitor, moved_by}

-- of a tidy of v by session i that is accepted, before the observer takes note of it
pub record MovesRows (st : State) (o : Observer) (i v : ℕ) : Type 0 where
  pub since : ℕ
  pub own : List Wish
  pub is_open : visitor o i ≡ sitting since own
  -- "session with start s"
  pub start_is : start_of (session st i) ≡ since
  -- "The moved rows are those whose flip set at s has v."
  pub exactly : (r : ℕ) → Memᴰ r (moved_by o since v) ↔ (moves st.log since v r ≡ true)
  -- "a tidy record of that stamp lists the moved rows in ascending order"
  pub record_is : (step st (tidy i v)).0.log ≡ grown st.log (tidy_record st since v)
  pub record-rows : map (λ (c : Change). c.row) (tidy_record st since v).changes ≡ moved_by o since v
