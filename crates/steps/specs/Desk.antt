-- Lines answered one after another: what they leave and the bytes of their answers.
use Rattle.std.specs.Prelude.{List, [], ◌∷◌, ◌++◌, ℕ}
use Rattle.tables.specs.Cells.{Tables}
use Rattle.text.specs.Parse.{parse}
use Rattle.lines.specs.Turn.{Turn, turn_of}
use Rattle.lines.specs.Line.{answer_line}

-- the tables and the scratch between two lines
pub record Desk : Type 0 where
  pub tables : Tables
  pub scratch : List ℕ

abbrev pub desk : Tables → List ℕ → Desk
desk t s = record { tables = t; scratch = s }

-- what a line comes to there
abbrev pub turn_at : Desk → List ℕ → Turn
turn_at d line = turn_of d.tables d.scratch (parse line)

abbrev pub after_line : Desk → List ℕ → Desk
after_line d line = desk (turn_at d line).after (turn_at d line).scratch

-- the tables and the scratch after some lines
unfoldable pub after_lines : Desk → List (List ℕ) → Desk
after_lines d [] = d
after_lines d (l ∷ ls) = after_lines (after_line d l) ls

-- "It reads lines from standard input and writes one line for each."
unfoldable pub answers_of : Desk → List (List ℕ) → List ℕ
answers_of d [] = []
answers_of d (l ∷ ls) = answer_line (turn_at d l).answer ++ answers_of (after_line d l) ls
