-- What an export says: C sees what the call's definition says.
use Rattle.std.proofs.Common.{Result, ◌≡◌, ◌∙◌, ap, List, ℕ}
use Rattle.tables.specs.declared.refusal.Refusal.{Refusal}
use Rattle.tables.specs.Cells.{Tables}
use Rattle.outcomes.specs.declared.answers.Answer.{Answer}
use Rattle.outcomes.specs.Said.{said}
use Rattle.outcomes.specs.Outcome.{Outcome, outcome}
use Rattle.kerenvuf.specs.declared.in_numbers.KvAnswer.{KvAnswer}
use Rattle.kerenvuf.specs.Heard.{seen, in_numbers, encoded}

-- it follows from what the call of the index says, and from its answer in numbers
pub encodes : (t : Tables) (bs : List (List ℕ)) (a : Result Answer Refusal) (o : Outcome) (r : KvAnswer) → outcome t bs (said a) ≡ o → r ≡ encoded (said a)
    → seen t bs r ≡ in_numbers o
encodes t bs a o r h e = ap (seen t bs) e ∙ ap in_numbers h
