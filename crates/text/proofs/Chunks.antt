-- Chunking does not matter: two chunks are read as one, its lines are those of the input, and a buffer of one byte more than the longest
-- line holds enough of each.
use Rattle.std.proofs.Common.{◌≡◌, ℕ, zero, suc, ◌<◌, ◌≤◌, Bool, true, false, cond, eqb, ◌⊎◌, List, [], ◌∷◌, ◌++◌, map, length, take, sym, refl, ap, ◌∙◌, inl, inr, append_assoc, append-nil, arith, length-take, take_all}
use mathlib.Core.List.{map-append}
use mathlib.Core.Option.{none}
use borrow.Author.Tests.{lt-leb}
use Rattle.bits.proofs.Cases.{lt-cases}
use Rattle.fields.specs.Split.{before, split, newline}
use Rattle.text.specs.Parse.{longest_line, parse}
use Rattle.text.specs.Lines.{all_but_last, last_of, last_line, lines_of}
use Rattle.text.specs.Feed.{cut, pend}
use Rattle.fields.proofs.SplitLaws.{split-first}

-- ---- a chunk in two parts

cut-more : (p : List ℕ) (b : ℕ) (l m : List ℕ) (t : Bool) → eqb b newline ≡ t
    → cut [] (l ++ m) ≡ cut [] l ++ cut (pend [] l) m
    → cut (p ++ b ∷ []) (l ++ m) ≡ cut (p ++ b ∷ []) l ++ cut (pend (p ++ b ∷ []) l) m
    → cut p (b ∷ l ++ m) ≡ cut p (b ∷ l) ++ cut (pend p (b ∷ l)) m
unfolding cut pend
cut-more p b l m true e h k = rw (e, h)
cut-more p b l m false e h k = rw (e, k)

pub cut-append : (p l m : List ℕ) → cut p (l ++ m) ≡ cut p l ++ cut (pend p l) m
unfolding cut pend
cut-append p [] m = refl
cut-append p (b ∷ l) m = cut-more p b l m (eqb b newline) refl (cut-append [] l m) (cut-append (p ++ b ∷ []) l m)

pend-more : (p : List ℕ) (b : ℕ) (l m : List ℕ) (t : Bool) → eqb b newline ≡ t
    → pend [] (l ++ m) ≡ pend (pend [] l) m
    → pend (p ++ b ∷ []) (l ++ m) ≡ pend (pend (p ++ b ∷ []) l) m
    → pend p (b ∷ l ++ m) ≡ pend (pend p (b ∷ l)) m
unfolding pend
pend-more p b l m true e h k = rw (e, h)
pend-more p b l m false e h k = rw (e, k)

pub pend-append : (p l m : List ℕ) → pend p (l ++ m) ≡ pend (pend p l) m
unfolding pend
pend-append p [] m = refl
pend-append p (b ∷ l) m = pend-more p b l m (eqb b newline) refl (pend-append [] l m) (pend-append (p ++ b ∷ []) l m)

-- ---- the lines of an input are those of it as one chunk

-- p before the first part
unfoldable front : List ℕ → List (List ℕ) → List (List ℕ)
front p [] = p ∷ []
front p (f ∷ fs) = (p ++ f) ∷ fs

module _ (p : List ℕ) (b : ℕ) (l f : List ℕ) (fs : List (List ℕ)) (s : split newline l ≡ f ∷ fs) where
  cut-split-more : (t : Bool) → eqb b newline ≡ t → cut [] l ≡ all_but_last (front [] (split newline l))
      → cut (p ++ b ∷ []) l ≡ all_but_last (front (p ++ b ∷ []) (split newline l))
      → cut p (b ∷ l) ≡ all_but_last (front p (split newline (b ∷ l)))
  unfolding cut split before front all_but_last
  cut-split-more true e h k = rw (e, h, s, append-nil p)
  cut-split-more false e h k = rw (e, k, s) (ap (λ x. all_but_last (x ∷ fs)) (append_assoc p (b ∷ []) f))

  pend-split-more : (t : Bool) → eqb b newline ≡ t → pend [] l ≡ last_of (front [] (split newline l))
      → pend (p ++ b ∷ []) l ≡ last_of (front (p ++ b ∷ []) (split newline l)) → pend p (b ∷ l) ≡ last_of (front p (split newline (b ∷ l)))
  unfolding pend split before front last_of
  pend-split-more true e h k = rw (e, h, s)
  pend-split-more false e h k = rw (e, k, s) (ap (λ x. last_of (x ∷ fs)) (append_assoc p (b ∷ []) f))

cut-split : (p l : List ℕ) → cut p l ≡ all_but_last (front p (split newline l))
unfolding cut split front all_but_last
cut-split p [] = refl
cut-split p (b ∷ l) = cut-split-more p b l _ _ (split-first newline l) (eqb b newline) refl (cut-split [] l) (cut-split (p ++ b ∷ []) l)

pend-split : (p l : List ℕ) → pend p l ≡ last_of (front p (split newline l))
unfolding pend split front last_of
pend-split p [] = sym (append-nil p)
pend-split p (b ∷ l) = pend-split-more p b l _ _ (split-first newline l) (eqb b newline) refl (pend-split [] l) (pend-split (p ++ b ∷ []) l)

front-none : (l : List ℕ) → front [] (split newline l) ≡ split newline l
unfolding front
front-none l = rw (split-first newline l)

pub one_chunk : (l : List ℕ) → cut [] l ++ last_line (pend [] l) ≡ lines_of l
unfolding lines_of
one_chunk l = rw (cut-split [] l, pend-split [] l, front-none l)

-- ---- of pending bytes and of lines no more than m bytes matter

take-one : (m : ℕ) (p q : List ℕ) (b : ℕ) → take m p ≡ take m q → take m (p ++ b ∷ []) ≡ take m (q ++ b ∷ [])
take-one m p q b e = go m p ∙ ap (λ (l : List ℕ). take m (l ++ b ∷ [])) e ∙ sym (go m q)
  where
    go : (m : ℕ) (p : List ℕ) → take m (p ++ b ∷ []) ≡ take m (take m p ++ b ∷ [])
    go zero p = refl
    go (suc m) [] = refl
    go (suc m) (x ∷ p) = rw (go m p)

pub cut-same : (m : ℕ) (p q l : List ℕ) → take m p ≡ take m q → map (take m) (cut p l) ≡ map (take m) (cut q l)
unfolding cut
cut-same m p q [] e = refl
cut-same m p q (b ∷ l) e = go (eqb b newline) (cut-same m (p ++ b ∷ []) (q ++ b ∷ []) l (take-one m p q b e))
  where
    go : (t : Bool) → map (take m) (cut (p ++ b ∷ []) l) ≡ map (take m) (cut (q ++ b ∷ []) l)
        → map (take m) (cond t (p ∷ cut [] l) (cut (p ++ b ∷ []) l)) ≡ map (take m) (cond t (q ∷ cut [] l) (cut (q ++ b ∷ []) l))
    go true h = rw e
    go false h = h

pub pend-same : (m : ℕ) (p q l : List ℕ) → take m p ≡ take m q → take m (pend p l) ≡ take m (pend q l)
unfolding pend
pend-same m p q [] e = e
pend-same m p q (b ∷ l) e = go (eqb b newline) (pend-same m (p ++ b ∷ []) (q ++ b ∷ []) l (take-one m p q b e))
  where
    go : (t : Bool) → take m (pend (p ++ b ∷ []) l) ≡ take m (pend (q ++ b ∷ []) l)
        → take m (cond t (pend [] l) (pend (p ++ b ∷ []) l)) ≡ take m (cond t (pend [] l) (pend (q ++ b ∷ []) l))
    go true h = refl
    go false h = h

pub last-held : (m : ℕ) (p : List ℕ) → 0 < m → last_line (take m p) ≡ map (take m) (last_line p)
unfolding last_line
last-held zero p h = absurd (omega arith)
last-held (suc m) [] h = refl
last-held (suc m) (b ∷ p) h = refl

pub held-append : (m : ℕ) (a b : List (List ℕ)) → map (take m) (a ++ b) ≡ map (take m) a ++ map (take m) b
held-append m a b = map-append (take m) a b

-- ---- a line of which more bytes are held than the longest line has means what it means whole

pub long-none : (line : List ℕ) → longest_line < length line → parse line ≡ none
unfolding parse
long-none line h = rw (lt-leb (length line) longest_line h)

pub parse-held : (m : ℕ) (line : List ℕ) → longest_line < m → parse (take m line) ≡ parse line
parse-held m line h = go (lt-cases longest_line (length line))
  where
    go : (longest_line < length line) ⊎ (length line ≤ longest_line) → parse (take m line) ≡ parse line
    go (inl l) = long-none (take m line) (omega (arith, length-take m line)) ∙ sym (long-none line l)
    go (inr l) = rw (take_all m line (omega arith))

pub parse-all : (m : ℕ) (ls : List (List ℕ)) → longest_line < m → map parse (map (take m) ls) ≡ map parse ls
parse-all m [] h = refl
parse-all m (l ∷ ls) h = rw (parse-held m l h, parse-all m ls h)
