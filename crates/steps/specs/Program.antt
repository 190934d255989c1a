-- The step program from its first byte to its last.
use Rattle.std.specs.Prelude.{◌≡◌, Bool, true, false, List, [], ◌++◌, ℕ, ◌≤◌, length, take, replicate}
use Rattle.tables.specs.Cells.{tables}
use Rattle.tables.specs.Sessions.{freed}
use Rattle.text.specs.Lines.{last_line, lines_of}
use Rattle.ends.specs.declared.watch.Watch.{Watch}
use Rattle.ends.specs.declared.Told.{Told}
use Rattle.ends.specs.Watch.{fresh, watched}
use Rattle.ends.specs.Ends.{Taken}
use Rattle.steps.specs.Desk.{Desk, desk, after_lines, answers_of}
use Rattle.steps.specs.Answers.{lines_left, pending_left}

-- some lines, answered one after another from d on: the first of them were, and all where all went well. The tables and the scratch are
-- those after these lines, the bytes handed to the writer are exactly their answers, and the system took the first of these bytes, all
-- where all went well.
pub record Does (lines : List (List ℕ)) (d : Desk) (t : Told) (d' : Desk) (t' : Told) (well : Bool) : Type 0 where
  pub first : List (List ℕ)
  pub rest : List (List ℕ)
  pub lines_are : lines ≡ first ++ rest
  pub desk-is : d' ≡ after_lines d first
  pub handed-is : t'.handed ≡ watched t.handed (answers_of d first)
  pub took : Taken (answers_of d first) t.taken t'.taken well
  pub all_first : well ≡ true → rest ≡ []

-- bytes gone through after the first `len` bytes pending: the lines that they end are answered, and where all went well the bytes pending
-- are those after the last newline, as far as they are held
pub record Through (bytes : List ℕ) (d : Desk) (pending : List ℕ) (len : ℕ) (told : Told)
    (d' : Desk) (pending' : List ℕ) (len' : ℕ) (told' : Told) (well : Bool) : Type 0 where
  pub does : Does (lines_left pending len bytes 0) d told d' told' well
  pub pending-is : well ≡ true → take len' pending' ≡ pending_left pending len bytes 0
  pub pending-room : length pending' ≡ length pending
  pub fits : len' ≤ length pending

-- the same, for the bytes that the reads gave, one piece after another
pub record Read (d : Desk) (pending : List ℕ) (len : ℕ) (heard : Watch) (told : Told)
    (d' : Desk) (pending' : List ℕ) (len' : ℕ) (heard' : Watch) (told' : Told) (well : Bool) : Type 0 where
  pub bytes : List ℕ
  pub heard-is : heard' ≡ watched heard bytes
  pub through : Through bytes d pending len told d' pending' len' told' well

-- the end of the input: bytes pending are a last line, which is answered; where something has failed, nothing more is done
pub record Ends (d : Desk) (pending : List ℕ) (len : ℕ) (told : Told) (well : Bool)
    (d' : Desk) (told' : Told) (well' : Bool) : Type 0 where
  pub does : well ≡ true → Does (last_line (take len pending)) d told d' told' well'
  pub desk-still : well ≡ false → d' ≡ d
  pub told-still : well ≡ false → told' ≡ told
  pub still-failed : well ≡ false → well' ≡ false

-- tables and scratch before the first line: all cells 0, every session free
unfoldable pub zeros : ℕ → List ℕ
zeros n = replicate n 0

abbrev pub blank : Desk
blank = desk (tables (zeros 6) (zeros 288) (zeros 3072) (zeros 32) (zeros 2048) (zeros 4096) (replicate 16 freed)) (zeros 32)

-- lent tables and a scratch of zeros
pub record Blank (clock slots words heads log changes scratch : List ℕ) : Type 0 where
  pub clock-is : clock ≡ zeros 6
  pub slots-is : slots ≡ zeros 288
  pub words-is : words ≡ zeros 3072
  pub heads-is : heads ≡ zeros 32
  pub log_is : log ≡ zeros 2048
  pub changes-is : changes ≡ zeros 4096
  pub scratch-is : scratch ≡ zeros 32

-- nothing handed over yet, with the same byte watched
unfoldable pub fresh_told : ℕ → Told
fresh_told place = record { handed = fresh place; taken = fresh place }

-- the program: of all bytes that the reads gave, the lines are answered from the blank tables on
pub record Program (heardAt toldAt : ℕ) (d : Desk) (heard : Watch) (told : Told) (well : Bool) : Type 0 where
  pub input : List ℕ
  pub heard-is : heard ≡ watched (fresh heardAt) input
  pub does : Does (lines_of input) blank (fresh_told toldAt) d told well
