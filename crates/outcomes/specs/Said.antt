-- What an answer says: document 01's number and values for each of its cases.
use Rattle.std.specs.Prelude.{Bool, List, [], ◌∷◌, ℕ, Result, Ok, Err}
use Rattle.std.proofs.Math.Option.{Option, none, some}
use Rattle.tables.specs.declared.refusal.Refusal.{Refusal}
use Rattle.tables.specs.Refusals.{number_of}
use Rattle.history.specs.Read.{standing_of}
use Rattle.outcomes.specs.declared.answers.Place.{Place}
use Rattle.outcomes.specs.declared.answers.Place.TheVariants.{Slot, Scratch}
use Rattle.outcomes.specs.declared.answers.Answer.{Answer}
use Rattle.outcomes.specs.declared.answers.Answer.TheVariants.{Count, At, Read, Listed}

pub data Said : Type 0 where
  -- "A refusal answers the number and nothing more"
  no : ℕ → Said
  -- create, begin, span, update, delete, insert, commit, tidy, abort: their numbers
  numbers : List ℕ → Said
  -- read: "the value or says absent"
  value : Option ℕ → Said
  -- query: the flip count, whether a tidy is due, and whose words are the answer: a slot's own, or (none) the scratch's
  words : ℕ → Bool → Option ℕ → Said

abbrev pub place_of : Place → Option ℕ
place_of (Slot i) = some i
place_of Scratch = none

-- an accepted call's
abbrev pub numbers_of : Answer → Said
numbers_of (Count n) = numbers (n ∷ [])
numbers_of (At s n) = numbers (s.0 ∷ n.0 ∷ [])
numbers_of (Read x) = value (standing_of x)
numbers_of (Listed n d p) = words n d (place_of p)

abbrev pub said : Result Answer Refusal → Said
said (Err why) = no (number_of why)
said (Ok a) = numbers_of a
