-- The lines of a chunk, answered one after another as far as there is room.
use mathlib.Core.Path.{◌≡◌, refl, sym, ap, ap₂, ◌∙◌}
use mathlib.Core.Bool.{Bool, true, false, ◌&&◌, and-eq-true_iff}
use mathlib.Core.List.{List, [], ◌++◌, map, append_assoc, append-nil}
use mathlib.Core.Logic.{◌⊎◌, inl, inr}
use Prim.Native.Nat.{ℕ, ◌+◌, ◌-◌, ◌<◌, ◌≤◌}
use native.Mathlib.Omega.{arith}
use borrow.Author.Tests.{lt-ltb, ltb-true, leb-true, leb-false}
use lib.Dec.{leb, ltb}
use lib.ListN.{length, take, drop, length-append, length-take, length-drop}
use lib.Seq.{sets, sets-eq, length-sets, take_all, take-append_seam}
use Rattle.bits.proofs.Cases.{eq-cases}
use Rattle.text.specs.declared.feed.Fed.{Fed}
use Rattle.text.specs.Feed.{cut, pend, whole_line, Feeds}
use Rattle.steps.specs.Desk.{Desk, after_lines, answers_of}
use Rattle.steps.specs.Answers.{Replied, lines_left, Spot, spot, Fits, Comes, Answers}
use Rattle.steps.proofs.ReplyLaws.{answers-append, after-append}

-- ---- bytes put behind those that are there

-- the part from `filled` on, changed, in its place
abbrev pub behind_put : List ℕ → ℕ → List ℕ → List ℕ
behind_put out filled part = take filled out ++ (part ++ drop (length out - filled) (drop filled out))

module _ (out part bs : List ℕ) (filled n : ℕ) (l : filled ≤ length out) (p : part ≡ sets (drop filled out) 0 bs) where
  put-room : length (behind_put out filled part) ≡ length out
  put-room =
      simp (length-append, length-take, length-drop)
      (omega (arith, l, ap length p, length-sets (drop filled out) 0 bs, length-drop filled out))

  put_front : n ≡ length bs → filled + n ≤ length out → take (filled + n) (behind_put out filled part) ≡ take filled out ++ bs
  put_front e h =
      let r₁ = drop (0 + length bs) (drop filled out) in
      let r₂ = drop (length out - filled) (drop filled out) in
      let q : part ≡ bs ++ r₁ = p ∙ sets-eq bs (drop filled out) 0 (omega (arith, e, h, length-drop filled out)) in
      let k : filled + n ≡ length (take filled out ++ bs) =
      omega (arith, e, l, length-append (take filled out) bs, length-take filled out) in
      let w : behind_put out filled part ≡ (take filled out ++ bs) ++ (r₁ ++ r₂) =
      ap (λ (y : List ℕ). take filled out ++ (y ++ r₂)) q ∙ ap (λ (y : List ℕ). take filled out ++ y) (append_assoc bs r₁ r₂)
      ∙ sym (append_assoc (take filled out) bs (r₁ ++ r₂)) in
      ap₂ (λ (i : ℕ) (y : List ℕ). take i y) k w ∙ take-append_seam (take filled out ++ bs) (r₁ ++ r₂)

-- ---- from spot to spot

pub comes-none : (bytes : List ℕ) (s : Spot) → Fits bytes s → Comes bytes s s
unfolding after_lines answers_of
comes-none bytes s f =
    record {
      first = [];
      lines_are = refl;
      desk-is = refl;
      answers-are = sym (append-nil (take s.filled s.out));
      pending-is = refl;
      pending-room = refl;
      out-room = refl;
      fits = f;
      onward = omega arith;
      still = λ e. refl;
    }

-- the part from `filled` on as it is lent
abbrev pub lent_part : List ℕ → ℕ → List ℕ
lent_part out filled = take (length out - filled) (drop filled out)

whole_part : (out : List ℕ) (filled : ℕ) → lent_part out filled ≡ drop filled out
whole_part out filled = take_all (length out - filled) (drop filled out) (omega (arith, length-drop filled out))

part_room : (out : List ℕ) (filled : ℕ) → filled + 10276 ≤ length out → 10276 ≤ length (lent_part out filled)
part_room out filled l = omega (arith, l, ap length (whole_part out filled), length-drop filled out)

module _ {bytes : List ℕ} {s₀ : Spot} {d d' : Desk} {pending pending' out part : List ℕ} {len filled at n : ℕ} {fed : Fed}
    (came : Comes bytes s₀ (spot d pending len out filled at)) (room : filled + 10276 ≤ length out)
    (fs : Feeds pending len bytes at pending' fed)
    (rep : Replied d (whole_line fed.line pending') (lent_part out filled) d' part n) where
  abbrev ls : List (List ℕ)
  ls = whole_line fed.line pending'

  abbrev rest : ℕ → List (List ℕ)
  rest m = map (take m) (cut (take fed.len pending') (drop fed.next bytes))

  lines_are : lines_left pending len bytes at ≡ ls ++ rest (length pending')
  lines_are = fs.lines_are ∙ ap (λ (m : ℕ). ls ++ rest m) (sym fs.room)

  part-is : part ≡ sets (drop filled out) 0 (answers_of d ls)
  part-is = rep.out-is ∙ ap (λ (l : List ℕ). sets l 0 (answers_of d ls)) (whole_part out filled)

  same-room : length (behind_put out filled part) ≡ length out
  same-room = put-room out part (answers_of d ls) filled n came.fits.filled-fits part-is

  pub filled_more : filled + n ≤ length (behind_put out filled part)
  filled_more = omega (arith, room, rep.short, same-room)

  pub comes-more : Comes bytes s₀ (spot d' pending' fed.len (behind_put out filled part) (filled + n) fed.next)
  comes-more =
      record {
        first = came.first ++ ls;
        lines_are =
            came.lines_are ∙ ap (λ (l : List (List ℕ)). came.first ++ l) lines_are
            ∙ sym (append_assoc came.first ls (rest (length pending')));
        desk-is = rep.desk-is ∙ ap (λ (e : Desk). after_lines e ls) came.desk-is ∙ sym (after-append s₀.on came.first ls);
        answers-are =
            put_front out part (answers_of d ls) filled n came.fits.filled-fits part-is rep.len_is (omega (arith, room, rep.short))
            ∙ ap (λ (y : List ℕ). y ++ answers_of d ls) came.answers-are
            ∙ append_assoc (take s₀.filled s₀.out) (answers_of s₀.on came.first) (answers_of d ls)
            ∙ ap (λ (y : List ℕ). take s₀.filled s₀.out ++ y)
            (ap (λ (e : Desk). answers_of s₀.on came.first ++ answers_of e ls) came.desk-is
            ∙ sym (answers-append s₀.on came.first ls));
        pending-is = came.pending-is ∙ fs.pending-is
            ∙ ap (λ (m : ℕ). take m (pend (take fed.len pending') (drop fed.next bytes))) (sym fs.room);
        pending-room = fs.room ∙ came.pending-room;
        out-room = same-room ∙ came.out-room;
        fits = record { len-fits = omega (arith, fs.len-fits, fs.room); filled-fits = filled_more; within = fs.within };
        onward = omega (arith, came.onward, fs.goes_on);
        still = λ e. absurd (omega (arith, e, came.onward, fs.goes_on));
      }

-- ---- the loop's test

module _ (at n filled room : ℕ) (more : Bool) (e : more ≡ ltb at n && leb 10276 (room - filled)) where
  more_left : more ≡ true → at < n
  more_left t = ltb-true at n ((and-eq-true_iff (ltb at n) (leb 10276 (room - filled))).0 (sym e ∙ t)).0

  more_room : more ≡ true → filled ≤ room → filled + 10276 ≤ room
  more_room t l =
      let both = (and-eq-true_iff (ltb at n) (leb 10276 (room - filled))).0 (sym e ∙ t) in
      omega (arith, l, leb-true 10276 (room - filled) both.1)

  no_more : more ≡ false → filled ≤ room → at < n → room < filled + 10276
  no_more t l h =
      let q : leb 10276 (room - filled) ≡ false = ap (λ (b : Bool). b && leb 10276 (room - filled)) (sym (lt-ltb at n h)) ∙ sym e ∙ t in
      omega (arith, l, leb-false 10276 (room - filled) q)

-- the loop's end
answers-all : (bytes : List ℕ) (s₀ s : Spot) (more : Bool) → Comes bytes s₀ s
    → more ≡ ltb s.at (length bytes) && leb 10276 (length s.out - s.filled) → more ≡ false → Answers bytes s₀ s
answers-all bytes s₀ s more c e t =
    let stops : s.at < length bytes → length s.out < s.filled + 10276 = λ h. no_more s.at (length bytes) s.filled
    (length s.out) more e t c.fits.filled-fits h in
    record { comes = c; stops = stops; moves = λ h l. go h l stops (eq-cases s.at s₀.at) }
  where
    go : s₀.at < length bytes → s₀.filled + 10276 ≤ length s₀.out → (s.at < length bytes → length s.out < s.filled + 10276)
        → (s.at ≡ s₀.at) ⊎ (s.at ≡ s₀.at → ⊥) → s₀.at < s.at
    go h l stops (inl q) = absurd (omega (arith, l, stops (omega (arith, h, q)), c.still q, c.out-room))
    go h l stops (inr q) = omega (arith, q, c.onward)

-- ---- the loop's head

-- the code has come to the spot s, and goes on from there or not
pub record Going (bytes : List ℕ) (s₀ s : Spot) (more : Bool) : Type 0 where
  pub came : Comes bytes s₀ s
  pub test : more ≡ ltb s.at (length bytes) && leb 10276 (length s.out - s.filled)

module _ {bytes : List ℕ} {s₀ s : Spot} {more : Bool} (g : Going bytes s₀ s more) where
  pub going-left : more ≡ true → s.at < length bytes
  going-left t = more_left s.at (length bytes) s.filled (length s.out) more g.test t

  pub going-room : more ≡ true → s.filled + 10276 ≤ length s.out
  going-room t = more_room s.at (length bytes) s.filled (length s.out) more g.test t g.came.fits.filled-fits

  pub going-part : more ≡ true → 10276 ≤ length (lent_part s.out s.filled)
  going-part t = part_room s.out s.filled (going-room t)

  pub going_end : more ≡ false → Answers bytes s₀ s
  going_end t = answers-all bytes s₀ s more g.came g.test t
