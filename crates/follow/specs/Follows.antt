-- The step statement: a call follows the rules.
use Rattle.std.specs.Prelude.{◌≡◌}
use Rattle.rules.specs.Calls.{Call}
use Rattle.rules.specs.Step.{step}
use Rattle.tables.specs.Cells.{Tables}
use Rattle.tables.specs.Meaning.{meaning}
use Rattle.outcomes.specs.Outcome.{Outcome}
use Rattle.follow.specs.Good.{Good}
use Rattle.follow.specs.Heard.{heard}

-- of the rules' call c on the tables t, which came to o: what is left means the rules' next state, what is heard is the rules'
-- answer, and the tables stay good
pub record Follows (t : Tables) (c : Call) (o : Outcome) : Type 0 where
  pub same-state : meaning o.after ≡ (step (meaning t) c).0
  pub same_answer : heard c o ≡ (step (meaning t) c).1
  pub stays-good : Good o.after
