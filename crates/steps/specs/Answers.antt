-- What the code promises that answers the lines of a chunk.
use Rattle.std.specs.Prelude.{◌≡◌, List, ◌++◌, map, ℕ, ◌+◌, ◌<◌, ◌≤◌, length, take, drop}
use Rattle.std.proofs.lemmas.List.Edits.{sets}
use Rattle.text.specs.Feed.{cut, pend}
use Rattle.lines.specs.Line.{longest_answer}
use Rattle.steps.specs.Desk.{Desk, after_lines, answers_of}

-- some lines answered at the front of `out`
pub record Replied (d : Desk) (lines : List (List ℕ)) (out : List ℕ) (d' : Desk) (out' : List ℕ) (len : ℕ) : Type 0 where
  pub desk-is : d' ≡ after_lines d lines
  pub out-is : out' ≡ sets out 0 (answers_of d lines)
  pub len_is : len ≡ length (answers_of d lines)
  pub short : len ≤ longest_answer

-- what is left of a chunk: the lines that it ends from `at` on, after the first `len` bytes pending, each as far as it is held;
-- and the bytes that are pending after it
abbrev pub lines_left : List ℕ → ℕ → List ℕ → ℕ → List (List ℕ)
lines_left pending len bytes at = map (take (length pending)) (cut (take len pending) (drop at bytes))

abbrev pub pending_left : List ℕ → ℕ → List ℕ → ℕ → List ℕ
pending_left pending len bytes at = take (length pending) (pend (take len pending) (drop at bytes))

-- where the code stands in a chunk: the tables and the scratch, the bytes pending, the bytes of answers, the place
pub record Spot : Type 0 where
  pub on : Desk
  pub pending : List ℕ
  pub len : ℕ
  pub out : List ℕ
  pub filled : ℕ
  pub at : ℕ

abbrev pub spot : Desk → List ℕ → ℕ → List ℕ → ℕ → ℕ → Spot
spot d p n o f at = record { on = d; pending = p; len = n; out = o; filled = f; at = at }

-- a spot within its buffers
pub record Fits (bytes : List ℕ) (s : Spot) : Type 0 where
  pub len-fits : s.len ≤ length s.pending
  pub filled-fits : s.filled ≤ length s.out
  pub within : s.at ≤ length bytes

-- the code has come from one spot of a chunk to another: it answered the first of the lines that were left, and these answers are behind
-- those that were there
pub record Comes (bytes : List ℕ) (s s' : Spot) : Type 0 where
  pub first : List (List ℕ)
  pub lines_are : lines_left s.pending s.len bytes s.at ≡ first ++ lines_left s'.pending s'.len bytes s'.at
  pub desk-is : s'.on ≡ after_lines s.on first
  pub answers-are : take s'.filled s'.out ≡ take s.filled s.out ++ answers_of s.on first
  pub pending-is : pending_left s.pending s.len bytes s.at ≡ pending_left s'.pending s'.len bytes s'.at
  pub pending-room : length s'.pending ≡ length s.pending
  pub out-room : length s'.out ≡ length s.out
  pub fits : Fits bytes s'
  -- it goes on, and where it does not, no answer was written
  pub onward : s.at ≤ s'.at
  pub still : s'.at ≡ s.at → s'.filled ≡ s.filled

-- it went as far as there was room for the longest answer, and moved if there was
pub record Answers (bytes : List ℕ) (s s' : Spot) : Type 0 where
  pub comes : Comes bytes s s'
  pub stops : s'.at < length bytes → length s'.out < s'.filled + longest_answer
  pub moves : s.at < length bytes → s.filled + longest_answer ≤ length s.out → s.at < s'.at
