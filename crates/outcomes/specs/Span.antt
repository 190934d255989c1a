-- Span: what it leaves in the tables and in the list, and answers.
use Rattle.std.specs.Prelude.{List, [], ◌∷◌, ℕ, length}
use Rattle.bits.specs.Tab.{over}
use Rattle.rules.specs.State.{session, start_of}
use Rattle.rules.specs.Versions.{spanned_rows}
use Rattle.rules.specs.Calls.{span}
use Rattle.tables.specs.Cells.{Tables}
use Rattle.tables.specs.Meaning.{meaning}
use Rattle.outcomes.specs.Said.{numbers}
use Rattle.outcomes.specs.Outcome.{Outcome, outcome, refusal_at, unless}

-- the rules' span at the start s of a session: its rows, ascending
abbrev pub rows_of_span : Tables → ℕ → ℕ → ℕ → List ℕ
rows_of_span t s a b = spanned_rows (meaning t).log (meaning t).chains s a b

-- "writes the rows of any of them, ascending and once each, into a lent list of 16-bit numbers and answers how many. List cells after
-- the last one written stay."
unfoldable pub listed_span : Tables → List ℕ → ℕ → ℕ → ℕ → Outcome
listed_span t list s a b =
    let rows = rows_of_span t s a b in
    outcome t (over rows list ∷ []) (numbers (length rows ∷ []))

unfoldable pub span_of : Tables → List ℕ → ℕ → ℕ → ℕ → Outcome
span_of t list n a b =
    unless (refusal_at t (span n a b (length list))) t (list ∷ []) (listed_span t list (start_of (session (meaning t) n)) a b)
