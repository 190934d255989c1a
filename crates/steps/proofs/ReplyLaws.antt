-- A line answered, or none: what it leaves, and the bytes of its answer.
use mathlib.Core.Path.{◌≡◌, refl, sym, ap, ◌∙◌}
use mathlib.Core.List.{List, [], ◌∷◌, ◌++◌, append-nil, append_assoc}
use Prim.Native.Nat.{ℕ, ◌≤◌}
use native.Mathlib.Omega.{arith}
use lib.ListN.{length, take}
use lib.Seq.{sets}
use Rattle.std.specs.Prelude.{Option, Some, None}
use Rattle.tables.specs.Cells.{Tables}
use Rattle.text.specs.Parse.{parse}
use Rattle.text.specs.Feed.{whole_line}
use Rattle.lines.specs.Turn.{turn_of}
use Rattle.lines.specs.Line.{LineOutcome, line_outcome, answer_line, written, line_of}
use Rattle.lines.proofs.LineLaws.{line_read}
use Rattle.steps.specs.Desk.{Desk, desk, turn_at, after_line, after_lines, answers_of}
use Rattle.steps.specs.Answers.{Replied}

-- ---- lines after lines

pub answers-append : (d : Desk) (ls ms : List (List ℕ)) → answers_of d (ls ++ ms) ≡ answers_of d ls ++ answers_of (after_lines d ls) ms
unfolding answers_of after_lines
answers-append d [] ms = refl
answers-append d (l ∷ ls) ms = rw (answers-append (after_line d l) ls ms)
    (sym (append_assoc (answer_line (turn_at d l).answer) (answers_of (after_line d l) ls) _))

pub after-append : (d : Desk) (ls ms : List (List ℕ)) → after_lines d (ls ++ ms) ≡ after_lines (after_lines d ls) ms
unfolding after_lines
after-append d [] ms = refl
after-append d (l ∷ ls) ms = after-append (after_line d l) ls ms

-- ---- a line that is whole, and none

module _ (t t' : Tables) (s s' column column' out out' held : List ℕ) (n len : ℕ) where
  pub replied-line : (whole : Option ℕ) → whole ≡ Some n → 4096 ≤ length column → 10276 ≤ length out
      → line_outcome t' s' column' out' len ≡ line_of t s column out (take n held) → len ≤ 10276
      → Replied (desk t s) (whole_line whole held) out (desk t' s') out' len
  unfolding whole_line after_lines answers_of written
  replied-line whole w c l e k =
      let line : List ℕ = take n held in
      let o : line_outcome t' s' column' out' len ≡ written (turn_of t s (parse line)) line column out =
      e ∙ sym (line_read t s column out line c l) in
      let one : answer_line (turn_of t s (parse line)).answer ++ [] ≡ answer_line (turn_of t s (parse line)).answer = append-nil _ in
      let r : Replied (desk t s) (line ∷ []) out (desk t' s') out' len = record {
        desk-is = ap (λ (x : LineOutcome). desk x.after x.scratch) o;
        out-is = ap (λ (x : LineOutcome). x.out) o ∙ ap (sets out 0) (sym one);
        len_is = ap (λ (x : LineOutcome). x.len) o ∙ ap length (sym one);
        short = k;
      } in
      rw w r

pub replied-none : (t : Tables) (s out held : List ℕ) (whole : Option ℕ) → whole ≡ None → Replied (desk t s) (whole_line whole held) out (desk t s) out 0
unfolding whole_line after_lines answers_of
replied-none t s out held whole w =
    let r : Replied (desk t s) [] out (desk t s) out 0 = record { desk-is = refl; out-is = refl; len_is = refl; short = omega arith } in
    rw w r
