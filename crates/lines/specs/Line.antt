-- A line answered over lent buffers: what `line` promises.
use Rattle.std.specs.Prelude.{Bool, cond, ◌&&◌, List, [], ◌∷◌, ◌++◌, ℕ, ◌≤◌, leb, length}
use Rattle.std.proofs.lemmas.List.Edits.{sets}
use Rattle.tables.specs.Cells.{Tables}
use Rattle.fields.specs.Split.{newline}
use Rattle.text.specs.Parse.{parse}
use Rattle.text.specs.Asked.{line_bytes}
use Rattle.text.specs.Show.{show}
use Rattle.writing.specs.Wrote.{Wrote}
use Rattle.rules.specs.Calls.{Answer}
use Rattle.lines.specs.Turn.{Turn, turn_of}

-- the tables, the scratch, the column's buffer and the answer's buffer afterwards, and how many bytes the answer has
pub record LineOutcome : Type 0 where
  pub after : Tables
  pub scratch : List ℕ
  pub column : List ℕ
  pub out : List ℕ
  pub len : ℕ

abbrev pub line_outcome : Tables → List ℕ → List ℕ → List ℕ → ℕ → LineOutcome
line_outcome t s col out n = record { after = t; scratch = s; column = col; out = out; len = n }

-- the room that the longest answer takes: three numbers and 2,048 rows, each of ten or four digits after a space, and a newline
abbrev pub longest_answer : ℕ
longest_answer = 10276

-- a column's values take at most every second byte of the longest line
abbrev pub longest_column : ℕ
longest_column = 4096

unfoldable pub enough : List ℕ → List ℕ → Bool
enough column out = leb longest_column (length column) && leb longest_answer (length out)

-- "writes one line for each"
unfoldable pub answer_line : Answer → List ℕ
answer_line a = show a ++ newline ∷ []

-- the answer's line stands at the front of `exit`, which else is `entry`; it has r bytes, which are no more than the longest has
pub record PutLine (entry : List ℕ) (answer : Answer) (exit : List ℕ) (r : ℕ) : Type 0 where
  pub wrote : Wrote entry 0 (answer_line answer) exit r
  pub short : r ≤ longest_answer

-- the answer stands at the front of its buffer, and a column's values at the front of theirs
unfoldable pub written : Turn → List ℕ → List ℕ → List ℕ → LineOutcome
written o line column out =
    line_outcome o.after o.scratch (sets column 0 (line_bytes line)) (sets out 0 (answer_line o.answer))
    (length (answer_line o.answer))

-- a line on lent tables, a scratch, and the two buffers: where one of these is too short for some line, nothing is done
unfoldable pub line_of : Tables → List ℕ → List ℕ → List ℕ → List ℕ → LineOutcome
line_of t s column out line =
    cond (enough column out) (written (turn_of t s (parse line)) line column out) (line_outcome t s column out 0)
