-- Lines done one piece of input after another, and the lines of the whole input.
use mathlib.Core.Path.{◌≡◌, refl, sym, ap, ap₂, subst, ◌∙◌}
use mathlib.Core.Bool.{Bool, true, false, true≢false}
use mathlib.Core.List.{List, [], ◌∷◌, ◌++◌, map, append_assoc, append-nil, cons-ne-nil, head-eq_of_cons-eq, tail-eq_of_cons-eq}
use mathlib.Core.Option.{Option}
use Prim.Native.Nat.{ℕ, zero, suc, ◌<◌, ◌≤◌}
use native.Mathlib.Omega.{arith}
use lib.ListN.{length, take, drop, length-append, length-map, take-append-drop, drop_of_length-le}
use lib.Seq.{take-append_seam}
use Rattle.rules.specs.Calls.{Call}
use Rattle.text.specs.Parse.{longest_line, parse}
use Rattle.text.proofs.Chunks.{parse-all}
use Rattle.lines.specs.Turn.{turn_of}
use Rattle.lines.specs.Line.{answer_line}
use Rattle.ends.specs.declared.watch.Watch.{Watch}
use Rattle.ends.specs.declared.Told.{Told}
use Rattle.ends.specs.Watch.{watched}
use Rattle.steps.specs.Desk.{Desk, desk, after_line, after_lines, answers_of}
use Rattle.ends.specs.Ends.{Taken}
use Rattle.steps.specs.Program.{Does}
use Rattle.steps.proofs.ReplyLaws.{answers-append, after-append}
use Rattle.ends.proofs.WatchLaws.{watched-append}
use Rattle.ends.proofs.EndsLaws.{taken_none, taken_more, taken-less}

-- ---- some lines, then more

pub does-none : (d : Desk) (t : Told) (well : Bool) → Does [] d t d t well
unfolding after_lines answers_of watched
does-none d t well =
    record {
      first = [];
      rest = [];
      lines_are = refl;
      desk-is = refl;
      handed-is = refl;
      took = taken_none t.taken well;
      all_first = λ e. refl;
    }

module _ {xs ys : List (List ℕ)} {d d₁ d₂ : Desk} {t t₁ t₂ : Told} {well₁ well : Bool} where
  pub does-more : Does xs d t d₁ t₁ well₁ → well₁ ≡ true → Does ys d₁ t₁ d₂ t₂ well → Does (xs ++ ys) d t d₂ t₂ well
  does-more a e b =
      let all : xs ≡ a.first = a.lines_are ∙ ap (λ (l : List (List ℕ)). a.first ++ l) (a.all_first e) ∙ append-nil a.first in
      record {
        first = a.first ++ b.first;
        rest = b.rest;
        lines_are = ap₂ (λ (l m : List (List ℕ)). l ++ m) all b.lines_are ∙ sym (append_assoc a.first b.first b.rest);
        desk-is = b.desk-is ∙ ap (λ (x : Desk). after_lines x b.first) a.desk-is ∙ sym (after-append d a.first b.first);
        handed-is =
            b.handed-is
            ∙ ap₂ (λ (v : Watch) (x : Desk). watched v (answers_of x b.first)) a.handed-is a.desk-is
            ∙ sym (watched-append t.handed (answers_of d a.first) (answers_of (after_lines d a.first) b.first))
            ∙ ap (watched t.handed) (sym (answers-append d a.first b.first));
        took =
            subst (λ (bs : List ℕ). Taken bs t.taken t₂.taken well) (sym (answers-append d a.first b.first))
            (taken_more a.took e (subst (λ (x : Desk). Taken (answers_of x b.first) t₁.taken t₂.taken well) a.desk-is
            b.took));
        all_first = b.all_first;
      }

-- it may be said to have failed
pub does-less : {xs : List (List ℕ)} {d d₁ : Desk} {t t₁ : Told} {well well' : Bool} → (well' ≡ true → well ≡ true) → Does xs d t d₁ t₁ well
    → Does xs d t d₁ t₁ well'
does-less h a =
    record {
      first = a.first;
      rest = a.rest;
      lines_are = a.lines_are;
      desk-is = a.desk-is;
      handed-is = a.handed-is;
      took = taken-less h a.took;
      all_first = λ e. a.all_first (h e);
    }

-- where something failed, more lines are not done
pub does-failed : {xs : List (List ℕ)} {d d₁ : Desk} {t t₁ : Told} {well : Bool} (ys : List (List ℕ)) → Does xs d t d₁ t₁ well
    → Does (xs ++ ys) d t d₁ t₁ false
does-failed ys a =
    record {
      first = a.first;
      rest = a.rest ++ ys;
      lines_are = ap (λ (l : List (List ℕ)). l ++ ys) a.lines_are ∙ append_assoc a.first a.rest ys;
      desk-is = a.desk-is;
      handed-is = a.handed-is;
      took = taken-less (λ e. absurd (true≢false (sym e))) a.took;
      all_first = λ e. absurd (true≢false (sym e));
    }

-- ---- lines that ask for the same

-- get the same answers
same-answers : (d : Desk) (ls ms : List (List ℕ)) → map parse ls ≡ map parse ms → answers_of d ls ≡ answers_of d ms
unfolding answers_of
same-answers d [] [] e = refl
same-answers d [] (m ∷ ms) e = absurd (cons-ne-nil _ _ (sym e))
same-answers d (l ∷ ls) [] e = absurd (cons-ne-nil _ _ e)
same-answers d (l ∷ ls) (m ∷ ms) e =
    let h : parse l ≡ parse m = head-eq_of_cons-eq e in
    ap (λ (b : List ℕ). answer_line (turn_of d.tables d.scratch (parse l)).answer ++ b)
    (same-answers (after_line d l) ls ms (tail-eq_of_cons-eq e))
    ∙ ap (λ (c : Option Call). answer_line (turn_of d.tables d.scratch c).answer
    ++ answers_of (desk (turn_of d.tables d.scratch c).after (turn_of d.tables d.scratch c).scratch) ms) h

-- and leave the same
same_after : (d : Desk) (ls ms : List (List ℕ)) → map parse ls ≡ map parse ms → after_lines d ls ≡ after_lines d ms
unfolding after_lines
same_after d [] [] e = refl
same_after d [] (m ∷ ms) e = absurd (cons-ne-nil _ _ (sym e))
same_after d (l ∷ ls) [] e = absurd (cons-ne-nil _ _ e)
same_after d (l ∷ ls) (m ∷ ms) e =
    let h : parse l ≡ parse m = head-eq_of_cons-eq e in
    same_after (after_line d l) ls ms (tail-eq_of_cons-eq e)
    ∙ ap (λ (c : Option Call). after_lines (desk (turn_of d.tables d.scratch c).after (turn_of d.tables d.scratch c).scratch) ms)
    h

-- ---- lines of which no more than m bytes are held, and the lines themselves

map_first : (f : List ℕ → List ℕ) (k : ℕ) (ls : List (List ℕ)) → map f (take k ls) ≡ take k (map f ls)
map_first f zero ls = refl
map_first f (suc k) [] = refl
map_first f (suc k) (l ∷ ls) = rw (map_first f k ls)

pub does-held : {d d₁ : Desk} {t t₁ : Told} {well : Bool} (m : ℕ) (ls : List (List ℕ)) → longest_line < m
    → Does (map (take m) ls) d t d₁ t₁ well
    → Does ls d t d₁ t₁ well
does-held {d} {d₁} {t} {t₁} {well} m ls h a =
    let k = length a.first in
    let held : a.first ≡ map (take m) (take k ls) =
    sym (take-append_seam a.first a.rest) ∙ ap (take k) (sym a.lines_are) ∙ sym (map_first (take m) k ls) in
    let asks : map parse a.first ≡ map parse (take k ls) = ap (map parse) held ∙ parse-all m (take k ls) h in
    let same : answers_of d a.first ≡ answers_of d (take k ls) = same-answers d a.first (take k ls) asks in
    record {
      first = take k ls;
      rest = drop k ls;
      lines_are = sym (take-append-drop k ls);
      desk-is = a.desk-is ∙ same_after d a.first (take k ls) asks;
      handed-is = a.handed-is ∙ ap (watched t.handed) same;
      took = subst (λ (bs : List ℕ). Taken bs t.taken t₁.taken well) same a.took;
      all_first = λ e. drop_of_length-le ls (all e);
    }
  where
    all : well ≡ true → length ls ≤ length a.first
    all e =
        let n : length (map (take m) ls) ≡ length (a.first ++ []) =
        ap length a.lines_are ∙ ap (λ (l : List (List ℕ)). length (a.first ++ l)) (a.all_first e) in
        omega (arith, n, length-map ls (take m), length-append a.first [])
