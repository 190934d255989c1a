-- Which answers are no refusal.
use Rattle.std.specs.Prelude.{Bool, true, false}
use Rattle.outcomes.specs.Said.{Said, no, numbers, value, words}

-- a call is accepted unless its answer is a refusal's number
unfoldable pub accepts : Said → Bool
accepts (no n) = false
accepts (numbers ns) = true
accepts (value v) = true
accepts (words n d p) = true
