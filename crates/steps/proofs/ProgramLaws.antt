-- Chunk after chunk, from the first byte to the end of the input.
use mathlib.Core.Path.{◌≡◌, refl, sym, ap, ap₂, subst, ◌∙◌}
use mathlib.Core.Bool.{Bool, true, false, not, ◌&&◌, and-eq-true_iff, true≢false}
use mathlib.Core.List.{List, [], ◌∷◌, ◌++◌, map, append_assoc}
use mathlib.Core.Logic.{◌⊎◌, inl, inr}
use Prim.Native.Nat.{ℕ, ◌<◌, ◌≤◌}
use native.Mathlib.Omega.{arith}
use borrow.Author.Tests.{ltb-true, ltb-false, lt-ltb}
use lib.Dec.{ltb}
use lib.ListN.{length, take, replicate, length-take, drop_of_length-le}
use lib.Seq.{take_all, take-take}
use Rattle.std.proofs.lemmas.Bool.{and_left, and_right}
use Rattle.bits.proofs.Cases.{bool_cases}
use Rattle.tables.specs.declared.session.Session.{Session}
use Rattle.tables.specs.Cells.{tables}
use Rattle.tables.specs.Sessions.{freed}
use Rattle.text.specs.Parse.{longest_line}
use Rattle.text.specs.Lines.{last_line, lines_of}
use Rattle.text.specs.Feed.{cut, pend}
use Rattle.text.proofs.Chunks.{cut-append, pend-append, cut-same, pend-same, held-append, last-held, one_chunk}
use Rattle.ends.specs.declared.watch.Watch.{Watch}
use Rattle.ends.specs.declared.Told.{Told}
use Rattle.ends.specs.Watch.{fresh, watched}
use Rattle.steps.specs.Desk.{Desk, desk, after_lines, answers_of}
use Rattle.steps.specs.Answers.{lines_left, pending_left, spot, Answers}
use Rattle.ends.specs.Ends.{Taken, Handed}
use Rattle.steps.specs.Program.{Does, Through, Read, Ends, Blank, blank, fresh_told, Program}
use Rattle.steps.proofs.ReplyLaws.{answers-append, after-append}
use Rattle.ends.proofs.WatchLaws.{watched-append}
use Rattle.ends.proofs.EndsLaws.{taken_none, taken_more}
use Rattle.steps.proofs.DoesLaws.{does-none, does-more, does-failed, does-less, does-held}

-- ---- a whole chunk, piece by piece

-- what is done of a chunk when it goes on at `at`
pub record Along (bytes : List ℕ) (d₀ : Desk) (pending₀ : List ℕ) (len₀ : ℕ) (told₀ : Told) (d : Desk) (pending : List ℕ)
    (len at : ℕ) (told : Told) (well : Bool) : Type 0 where
  pub first : List (List ℕ)
  pub lines_are : lines_left pending₀ len₀ bytes 0 ≡ first ++ lines_left pending len bytes at
  pub desk-is : d ≡ after_lines d₀ first
  pub handed-is : told.handed ≡ watched told₀.handed (answers_of d₀ first)
  pub took : Taken (answers_of d₀ first) told₀.taken told.taken well
  pub pending-is : pending_left pending₀ len₀ bytes 0 ≡ pending_left pending len bytes at
  pub pending-room : length pending ≡ length pending₀
  pub len-fits : len ≤ length pending
  pub within : at ≤ length bytes

pub along-none : (bytes : List ℕ) (d : Desk) (pending : List ℕ) (len : ℕ) (told : Told) → len ≤ length pending
    → Along bytes d pending len told d pending len 0 told true
unfolding after_lines answers_of watched
along-none bytes d pending len told l =
    record {
      first = [];
      lines_are = refl;
      desk-is = refl;
      handed-is = refl;
      took = taken_none told.taken true;
      pending-is = refl;
      pending-room = refl;
      len-fits = l;
      within = omega arith;
    }

module _ {bytes : List ℕ} {d₀ : Desk} {pending₀ : List ℕ} {len₀ : ℕ} {told₀ : Told} {d : Desk} {pending : List ℕ} {len at : ℕ}
    {told : Told} {well : Bool}
    (g : Along bytes d₀ pending₀ len₀ told₀ d pending len at told well) where
  pub along-more : {out out' : List ℕ} {d' : Desk} {pending' : List ℕ} {len' filled' at' : ℕ} {told' : Told} {well' : Bool} → well ≡ true
      → Answers bytes (spot d pending len out 0 at) (spot d' pending' len' out' filled' at')
      → Handed (take filled' out') told told' well'
      → Along bytes d₀ pending₀ len₀ told₀ d' pending' len' at' told' well'
  unfolding after_lines
  along-more {out} {out'} {d'} {pending'} {len'} {filled'} {at'} {told'} {well'} w a e =
      let new = a.comes.first in
      let said : take filled' out' ≡ answers_of d new = a.comes.answers-are in
      let here : take filled' out' ≡ answers_of (after_lines d₀ g.first) new = said ∙ ap (λ (x : Desk). answers_of x new) g.desk-is in
      record {
        first = g.first ++ new;
        lines_are = g.lines_are ∙ ap (λ (l : List (List ℕ)). g.first ++ l) a.comes.lines_are ∙ sym (append_assoc g.first new _);
        desk-is = a.comes.desk-is ∙ ap (λ (x : Desk). after_lines x new) g.desk-is ∙ sym (after-append d₀ g.first new);
        handed-is =
            e.handed-is
            ∙ ap₂ (λ (v : Watch) (bs : List ℕ). watched v bs) g.handed-is here
            ∙ sym (watched-append told₀.handed (answers_of d₀ g.first) (answers_of (after_lines d₀ g.first) new))
            ∙ ap (watched told₀.handed) (sym (answers-append d₀ g.first new));
        took =
            subst (λ (bs : List ℕ). Taken bs told₀.taken told'.taken well') (sym (answers-append d₀ g.first new))
            (taken_more g.took w (subst (λ (bs : List ℕ). Taken bs told.taken told'.taken well') here e.took));
        pending-is = g.pending-is ∙ a.comes.pending-is;
        pending-room = a.comes.pending-room ∙ g.pending-room;
        len-fits = a.comes.fits.len-fits;
        within = a.comes.fits.within;
      }

  -- nothing is left at the end
  module _ (at-end : length bytes ≤ at) where
    no_lines : lines_left pending len bytes at ≡ []
    unfolding cut
    no_lines = ap (λ (l : List ℕ). map (take (length pending)) (cut (take len pending) l)) (drop_of_length-le bytes at-end)

    all-pending : pending_left pending len bytes at ≡ take len pending
    unfolding pend
    all-pending =
        ap (λ (r : List ℕ). take (length pending) (pend (take len pending) r)) (drop_of_length-le bytes at-end)
        ∙ take_all (length pending) (take len pending) (omega (arith, g.len-fits, length-take len pending))

  pub along-through : (well ≡ true → length bytes ≤ at) → Through bytes d₀ pending₀ len₀ told₀ d pending len told well
  along-through t =
      record {
        does =
            record {
              first = g.first;
              rest = lines_left pending len bytes at;
              lines_are = g.lines_are;
              desk-is = g.desk-is;
              handed-is = g.handed-is;
              took = g.took;
              all_first = λ w. no_lines (t w);
            };
        pending-is = λ w. sym (g.pending-is ∙ all-pending (t w));
        pending-room = g.pending-room;
        fits = omega (arith, g.len-fits, g.pending-room);
      }

-- ---- one chunk after another

pub through-none : (d : Desk) (pending : List ℕ) (len : ℕ) (told : Told) (well : Bool) → len ≤ length pending
    → Through [] d pending len told d pending len told well
unfolding cut pend
through-none d pending len told well l =
    record {
      does = does-none d told well;
      pending-is = λ w. sym (take_all (length pending) (take len pending) (omega (arith, l, length-take len pending)));
      pending-room = refl;
      fits = l;
    }

module _ {xs ys : List ℕ} {d d₁ d₂ : Desk} {p p₁ p₂ : List ℕ} {len len₁ len₂ : ℕ} {t t₁ t₂ : Told} {well₁ well : Bool} where
  pub through-more : Through xs d p len t d₁ p₁ len₁ t₁ well₁ → well₁ ≡ true → Through ys d₁ p₁ len₁ t₁ d₂ p₂ len₂ t₂ well
      → Through (xs ++ ys) d p len t d₂ p₂ len₂ t₂ well
  through-more a w b =
      let m = length p in
      let q = take len p in
      let held : take m (take len₁ p₁) ≡ take m (pend q xs) = ap (take m) (a.pending-is w) ∙ take-take m m (pend q xs) (omega arith) in
      let lines : lines_left p len xs 0 ++ lines_left p₁ len₁ ys 0 ≡ lines_left p len (xs ++ ys) 0 =
      ap (λ (k : ℕ). map (take m) (cut q xs) ++ map (take k) (cut (take len₁ p₁) ys)) a.pending-room
      ∙ ap (λ (l : List (List ℕ)). map (take m) (cut q xs) ++ l) (cut-same m (take len₁ p₁) (pend q xs) ys held)
      ∙ sym (held-append m (cut q xs) (cut (pend q xs) ys)) ∙ ap (map (take m)) (sym (cut-append q xs ys)) in
      record {
        does = subst (λ (l : List (List ℕ)). Does l d t d₂ t₂ well) lines (does-more a.does w b.does);
        pending-is =
            λ e. b.pending-is e ∙ ap (λ (k : ℕ). take k (pend (take len₁ p₁) ys)) a.pending-room
            ∙ pend-same m (take len₁ p₁) (pend q xs) ys held ∙ ap (take m) (sym (pend-append q xs ys));
        pending-room = b.pending-room ∙ a.pending-room;
        fits = omega (arith, b.fits, a.pending-room);
      }

module _ {d : Desk} {p : List ℕ} {len : ℕ} {h : Watch} {t : Told} where
  -- before the first read
  pub read_none : (well : Bool) → len ≤ length p → Read d p len h t d p len h t well
  unfolding watched
  read_none well l = record { bytes = []; heard-is = refl; through = through-none d p len t well l }

  -- the input ends, or a read failed
  pub read-end : (bytes : List ℕ) (n : ℕ) (h' : Watch) (well : Bool) → len ≤ length p → h' ≡ watched h (take n bytes) → n ≡ 0
      → Read d p len h t d p len h' t well
  unfolding watched
  read-end bytes n h' well l e z =
      record { bytes = []; heard-is = e ∙ ap (λ (k : ℕ). watched h (take k bytes)) z; through = through-none d p len t well l }

  module _ {d₁ d₂ : Desk} {p₁ p₂ : List ℕ} {len₁ len₂ : ℕ} {h₁ h₂ : Watch} {t₁ t₂ : Told} {well₁ well : Bool} where
    pub read_more : Read d p len h t d₁ p₁ len₁ h₁ t₁ well₁ → well₁ ≡ true → Read d₁ p₁ len₁ h₁ t₁ d₂ p₂ len₂ h₂ t₂ well
        → Read d p len h t d₂ p₂ len₂ h₂ t₂ well
    read_more a w b =
        record {
          bytes = a.bytes ++ b.bytes;
          heard-is = b.heard-is ∙ ap (λ (v : Watch). watched v b.bytes) a.heard-is ∙ sym (watched-append h a.bytes b.bytes);
          through = through-more a.through w b.through;
        }

  -- reads that may go on have not come to the end
  pub read-over : {d₁ : Desk} {p₁ : List ℕ} {len₁ : ℕ} {h₁ : Watch} {t₁ : Told} {well : Bool} (b : Bool)
      → Read d p len h t d₁ p₁ len₁ h₁ t₁ well → Read d p len h t d₁ p₁ len₁ h₁ t₁ (well && b)
  read-over {d₁} {p₁} {len₁} {h₁} {t₁} {well} b a =
      record {
        bytes = a.bytes;
        heard-is = a.heard-is;
        through =
            record {
              does = does-less (λ e. ((and-eq-true_iff well b).0 e).0) a.through.does;
              pending-is = λ e. a.through.pending-is ((and-eq-true_iff well b).0 e).0;
              pending-room = a.through.pending-room;
              fits = a.through.fits;
            };
      }

-- ---- the end of the input

module _ {d : Desk} {p : List ℕ} {len : ℕ} {t : Told} where
  pub ends-none : (well : Bool) → well && ltb 0 len ≡ false → Ends d p len t well d t well
  unfolding last_line
  ends-none well e =
      record {
        does =
            λ w. let z : len ≡ 0 = omega (arith, ltb-false 0 len (ap (λ (b : Bool). b && ltb 0 len) (sym w) ∙ e)) in
            subst (λ (k : ℕ). Does (last_line (take k p)) d t d t well) (sym z) (does-none d t well);
        desk-still = λ w. refl;
        told-still = λ w. refl;
        still-failed = λ w. w;
      }

  pub ends-line : {d' : Desk} {p' : List ℕ} {len' : ℕ} {t' : Told} {well' : Bool} (well : Bool) → well && ltb 0 len ≡ true → len ≤ length p
      → Through (10 ∷ []) d p len t d' p' len' t' well' → Ends d p len t well d' t' well'
  unfolding cut last_line
  ends-line {d'} {p'} {len'} {t'} {well'} well e l a =
      let w : well ≡ true = ((and-eq-true_iff well (ltb 0 len)).0 e).0 in
      let one : take (length p) (take len p) ∷ [] ≡ last_line (take len p) =
      ap (λ (q : List ℕ). q ∷ []) (take_all (length p) (take len p) (omega (arith, l, length-take len p)))
      ∙ sym (some (take len p) (omega (arith, l, length-take len p, ltb-true 0 len ((and-eq-true_iff well (ltb 0 len)).0 e).1))) in
      record {
        does = λ v. subst (λ (ls : List (List ℕ)). Does ls d t d' t' well') one a.does;
        desk-still = λ v. absurd (true≢false (sym w ∙ v));
        told-still = λ v. absurd (true≢false (sym w ∙ v));
        still-failed = λ v. absurd (true≢false (sym w ∙ v));
      }
    where
      some : (q : List ℕ) → 0 < length q → last_line q ≡ q ∷ []
      some [] h = absurd (omega arith)
      some (b ∷ q) h = refl

  -- the same, by the tests of `finish`: nothing failed and a line is pending; something failed; no byte is pending
  pub ends-last : {d' : Desk} {p' : List ℕ} {len' : ℕ} {t' : Told} {well' : Bool} (well failed : Bool) → well ≡ not failed
      → failed ≡ false → 0 < len → len ≤ length p
      → Through (10 ∷ []) d p len t d' p' len' t' well' → Ends d p len t well d' t' well'
  ends-last well failed e f h l a =
      let w : well ≡ true = e ∙ ap not f in
      ends-line well ((and-eq-true_iff well (ltb 0 len)).1 (w, lt-ltb 0 len h)) l a

  pub ends-over : (well failed : Bool) → well ≡ not failed → failed ≡ true → Ends d p len t well d t well
  ends-over well failed e f = ends-none well (and_left well (ltb 0 len) (e ∙ ap not f))

  pub ends-empty : (well : Bool) → len ≡ 0 → Ends d p len t well d t well
  ends-empty well z = ends-none well (and_right well (ltb 0 len) (ap (ltb 0) z))

  -- where something has failed, nothing more is done
  pub ends-failed : Ends d p len t false d t false
  ends-failed = ends-none false refl

-- ---- the program

module _ {d d₁ d₂ : Desk} {p p₁ : List ℕ} {len₁ : ℕ} {h h₁ : Watch} {t t₁ t₂ : Told} {well₁ well₂ : Bool} (long : longest_line < length p)
    (a : Read d p 0 h t d₁ p₁ len₁ h₁ t₁ well₁) (b : Ends d₁ p₁ len₁ t₁ well₁ d₂ t₂ well₂) where
  abbrev input : List ℕ
  input = a.bytes

  whole-lines : map (take (length p)) (cut [] input) ++ map (take (length p)) (last_line (pend [] input)) ≡ map (take (length p))
      (lines_of input)
  whole-lines = sym (held-append (length p) (cut [] input) (last_line (pend [] input))) ∙ ap (map (take (length p))) (one_chunk input)

  held-does : Does (map (take (length p)) (lines_of input)) d t d₂ t₂ well₂
  held-does = go (bool_cases well₁)
    where
      go : (well₁ ≡ true) ⊎ (well₁ ≡ false) → Does (map (take (length p)) (lines_of input)) d t d₂ t₂ well₂
      go (inl w) =
          let last : last_line (take len₁ p₁) ≡ map (take (length p)) (last_line (pend [] input)) =
          ap last_line (a.through.pending-is w) ∙ last-held (length p) (pend [] input) (omega (arith, long)) in
          subst (λ (ls : List (List ℕ)). Does ls d t d₂ t₂ well₂)
          (ap (λ (ls : List (List ℕ)). map (take (length p)) (cut [] input) ++ ls) last ∙ whole-lines)
          (does-more a.through.does w (b.does w))
      go (inr w) =
          let failed : Does (map (take (length p)) (lines_of input)) d t d₁ t₁ false =
          subst (λ (ls : List (List ℕ)). Does ls d t d₁ t₁ false) whole-lines
          (does-failed (map (take (length p)) (last_line (pend [] input))) a.through.does) in
          rw (b.desk-still w, b.told-still w, b.still-failed w) failed

  pub all-does : Does (lines_of input) d t d₂ t₂ well₂
  all-does = does-held (length p) (lines_of input) long held-does

told_fresh : (t : Told) (o : ℕ) → t.handed ≡ fresh o → t.taken ≡ fresh o → t ≡ fresh_told o
unfolding fresh_told
told_fresh t o e f = let pair : Watch → Watch → Told = λ a b. record { handed = a; taken = b } in ap₂ pair e f

module _ (clock slots words heads log changes scratch : List ℕ) (ts : List Session) (len : ℕ) (h : Watch) (t : Told) (i o : ℕ) where
  pub program-is : {d₁ d₂ : Desk} {p p₁ : List ℕ} {len₁ : ℕ} {h₁ h₂ : Watch} {t₁ t₂ : Told} {well₁ well₂ : Bool}
      → Blank clock slots words heads log changes scratch → 8192 < length p
      → ts ≡ replicate 16 freed → (len ≡ 0) × (h ≡ fresh i) × (t.handed ≡ fresh o) × (t.taken ≡ fresh o)
      → Read (desk (tables clock slots words heads log changes ts) scratch) p len h t d₁ p₁ len₁ h₁ t₁ well₁
      → Ends d₁ p₁ len₁ t₁ well₁ d₂ t₂ well₂ → h₂ ≡ h₁ → Program i o d₂ h₂ t₂ well₂
  unfolding longest_line
  program-is {d₁} {d₂} {p} {p₁} {len₁} {h₁} {h₂} {t₁} {t₂} {well₁} {well₂} z long f s a b e = go (all-blank z f) s.0 s.1
      (told_fresh t o s.2 s.3) a
    where
      all-blank : Blank clock slots words heads log changes scratch → ts ≡ replicate 16 freed
          → desk (tables clock slots words heads log changes ts) scratch ≡ blank
      all-blank z q =
          rw (z.clock-is, z.slots-is, z.words-is, z.heads-is, z.log_is, z.changes-is, z.scratch-is, q)

      go : {d : Desk} {n : ℕ} {h : Watch} {t : Told} → d ≡ blank → n ≡ 0 → h ≡ fresh i → t ≡ fresh_told o
          → Read d p n h t d₁ p₁ len₁ h₁ t₁ well₁ → Program i o d₂ h₂ t₂ well₂
      go {d} {n} {h} {t} q k u v a =
          let a' : Read blank p 0 (fresh i) (fresh_told o) d₁ p₁ len₁ h₁ t₁ well₁ = rw (← q, ← k, ← u, ← v) a in
          record { input = a'.bytes; heard-is = e ∙ a'.heard-is; does = all-does long a' b }
