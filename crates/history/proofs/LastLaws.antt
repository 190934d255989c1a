-- The last change that names a row: one change more, a block that names it not, and the last change of any stretch up to the same
-- end; the rows that a stretch of changes flips, one change more, and the vector of them, as a loop marks it.
use mathlib.Core.Path.{◌≡◌, refl, sym, ap, ◌∙◌, ap₂}
use mathlib.Core.Bool.{Bool, true, false, ◌||◌, cond, or-false}
use mathlib.Core.Option.{Option, none, some}
use mathlib.Core.List.{List, [], ◌∷◌}
use mathlib.Core.Logic.{◌⊎◌, inl, inr, ⊎_elim}
use Prim.Native.Nat.{ℕ, zero, suc, ◌+◌, ◌-◌, ◌≤◌, ◌<◌}
use native.Mathlib.Omega.{arith}
use native.Mathlib.Numerals.{add-one}
use borrow.Author.Tests.{eq-eqb, ne_eqb, lt-ltb, le-ltb, ltb-true}
use Rattle.std.specs.Prelude as kit
use Rattle.std.specs.Prelude.{Some, None, MatchOption}
use lib.Dec.{eqb, ltb}
use lib.ListN.{replicate, length, take, drop, get_or}
use Rattle.std.proofs.lemmas.List.{length-take-le, get_or-take, get_or-drop, length-take}
use Rattle.bits.proofs.Cases.{lt-cases}
use Rattle.bits.specs.Choice.{or_else}
use Rattle.bits.specs.Bit.{bit}
use Rattle.bits.proofs.BitLaws.{bit-of-zero}
use Rattle.bits.specs.Vec.{vec}
use Rattle.bits.proofs.VecLaws.{vec-ext}
use Rattle.bits.proofs.VecOps.{put-vec, zeros-vec}
use Rattle.bits.specs.Words.{put_at}
use Rattle.rules.specs.State.{Change}
use Rattle.rules.specs.Log.{naming, last_naming, or_empty, names}
use Rattle.rules.proofs.Changes.{names-append, last_naming-append}
use Rattle.rules.proofs.Small.{or_parts}
use Rattle.tables.specs.Cells.{change_row, change_set}
use Rattle.tables.specs.Meaning.{change_at}
use Rattle.tables.specs.Stretch.{stretch}
use Rattle.tables.proofs.Stretch.{stretch-none, stretch-step, stretch-more, stretch-join}
use Rattle.history.specs.Last.{one_past, place_of, set_of, change_before, last_place, last_set, last_of}
use Rattle.history.specs.Flips.{flipped_in, marked, RowsLow}

module _ (changes : List ℕ) (row : ℕ) where
  -- the changes from a to b, and whether one of them names the row
  abbrev cut : ℕ → ℕ → List Change
  cut a b = stretch (change_at changes) a b

  abbrev in_cut : ℕ → ℕ → Bool
  in_cut a b = names (cut a b) row

  -- ---- whether a stretch names the row

  pub names-none : (a b : ℕ) → b ≤ a → false ≡ in_cut a b
  names-none a b h = rw (stretch-none (change_at changes) a b h)

  pub names_more : (a b : ℕ) → a ≤ b → in_cut a (b + 1) ≡ in_cut a b || eqb (change_row changes b) row
  names_more a b h =
      let x = change_at changes b in
      rw (stretch-more (change_at changes) a b h, names-append (cut a b) (x ∷ []) row, or-false (eqb (change_row changes b) row))

  names-join : (a b c : ℕ) → a ≤ b → b ≤ c → in_cut a c ≡ in_cut a b || in_cut b c
  names-join a b c h l = rw (← (stretch-join (change_at changes) a b c h l)) (names-append (cut a b) (cut b c) row)

  -- what a fold over a block of 64 changes meets
  abbrev block : ℕ → List ℕ
  block a = take (a + 64 - a) (drop a changes)

  pub block-fold : (a i : ℕ) (f : Bool) → i < length (block a) → f ≡ in_cut a (a + i)
      → f || eqb (get_or (block a) i 0) row ≡ in_cut a (a + (i + 1))
  block-fold a i f h e =
      let z : get_or (block a) i 0 ≡ change_row changes (a + i) =
      get_or-take (a + 64 - a) (drop a changes) i 0 (omega (arith, length-take (a + 64 - a) (drop a changes)))
      ∙ get_or-drop a changes i 0 in
      let y : a + (i + 1) ≡ a + i + 1 = omega arith in
      rw (z, y, e, names_more a (a + i) (omega arith))

  -- what the search for a change that names the row meets
  module _ (from to p : ℕ) (e : false ≡ in_cut from p) (h : from ≤ p) where
    pub named_here : p < to → change_row changes p ≡ row → true ≡ in_cut from to
    named_here l q =
        rw (names-join from (p + 1) to (omega arith) (omega arith), names_more from p h, ← e, eq-eqb (change_row changes p) row q)

    pub named_past : (change_row changes p ≡ row → ⊥) → false ≡ in_cut from (p + 1)
    named_past n = rw (names_more from p h, ← e, ne_eqb (change_row changes p) row n)

    pub named_none : to ≤ p → false ≡ in_cut from to
    named_none l =
        ⊎_elim (λ (k : from < to). sym (or_parts (in_cut from to) (in_cut to p) (sym (names-join from to p (omega arith) l) ∙ sym e)).0)
        (names-none from to) (lt-cases from to)

  -- ---- the place of the last one

  pub place-le : (n : ℕ) → last_place changes row n ≤ n
  unfolding last_place
  place-le zero = omega arith
  place-le (suc n) = go (eqb (change_row changes n) row) (place-le n)
    where
      go : (t : Bool) → last_place changes row n ≤ n → cond t (suc n) (last_place changes row n) ≤ suc n
      go true h = omega arith
      go false h = omega arith

  place-step : (n : ℕ) → last_place changes row (n + 1) ≡ cond (eqb (change_row changes n) row) (n + 1) (last_place changes row n)
  unfolding last_place
  place-step n = rw (add-one n)

  -- a stretch that does not name the row
  place-skip : (a n : ℕ) → in_cut a (a + n) ≡ false → last_place changes row (a + n) ≡ last_place changes row a
  place-skip a zero h = let z : a + 0 ≡ a = omega arith in ap (last_place changes row) z
  place-skip a (suc n) h =
      let z : a + suc n ≡ a + n + 1 = omega arith in
      let p = or_parts (in_cut a (a + n)) (eqb (change_row changes (a + n)) row) (rw (z, names_more a (a + n) (omega arith)) at h) in
      rw (z, place-step (a + n), p.1) (place-skip a n p.0)

  -- what the search from the end meets, where the changes from e on do not name the row: a block, a change, the start
  module _ (w e : ℕ) (i : w ≡ last_place changes row e) where
    pub block-past : (r : Bool) → 64 ≤ e → r ≡ in_cut (e - 64) (e - 64 + 64) → r ≡ false → w ≡ last_place changes row (e - 64)
    block-past r h q z =
        let back : e ≡ e - 64 + 64 = omega arith in
        i ∙ ap (last_place changes row) back ∙ place-skip (e - 64) 64 (sym q ∙ z)

  -- what the search backward through the first e changes finds
  place-found : (e i : ℕ) → i < e → change_row changes i ≡ row → ((k : ℕ) → i < k → k < e → change_row changes k ≡ row → ⊥)
      → i + 1 ≡ last_place changes row e
  unfolding last_place
  place-found zero i l q n = absurd (omega arith)
  place-found (suc e) i l q n = go (lt-cases i e) (λ h. place-found e i h q (λ k x y. n k x (omega arith)))
    where
      go : (i < e) ⊎ (e ≤ i) → (i < e → i + 1 ≡ last_place changes row e) → i + 1 ≡ last_place changes row (suc e)
      go (inl h) f = rw (ne_eqb (change_row changes e) row (n e h (omega arith))) (f h)
      go (inr h) f = let z : i ≡ e = omega arith in rw (← z, eq-eqb (change_row changes i) row q, add-one i)

  place-missing : (e : ℕ) → ((k : ℕ) → k < e → change_row changes k ≡ row → ⊥) → 0 ≡ last_place changes row e
  unfolding last_place
  place-missing zero n = refl
  place-missing (suc e) n =
      rw (ne_eqb (change_row changes e) row (n e (omega arith))) (place-missing e (λ k x. n k (omega arith)))

  pub place-is : (e : ℕ) (r : kit.Option ℕ)
      → MatchOption r ((k : ℕ) → k < length (take e changes) → get_or (take e changes) k 0 ≡ row → ⊥)
      (λ i. (i < length (take e changes)) × (get_or (take e changes) i 0 ≡ row)
      × ((k : ℕ) → i < k → k < length (take e changes) → get_or (take e changes) k 0 ≡ row → ⊥))
      → e ≤ length changes → one_past r ≡ last_place changes row e
  place-is e None h l =
      place-missing e (λ k x q. h k (omega (arith, length-take-le e changes l)) (get_or-take e changes k 0 x ∙ q))
  place-is e (Some i) h l =
      let x : i < e = omega (arith, h.0, length-take-le e changes l) in
      place-found e i x (sym (get_or-take e changes i 0 x) ∙ h.1)
      (λ k y z q. h.2 k y (omega (arith, length-take-le e changes l)) (get_or-take e changes k 0 z ∙ q))

  -- ---- its flip set

  pub last_more : (a n : ℕ) → a ≤ n → last_naming (cut a (suc n)) row
      ≡ or_else (naming (change_at changes n) row) (last_naming (cut a n) row)
  last_more a n h = rw (stretch-step (change_at changes) a n h) (last_naming-append (cut a n) (change_at changes n ∷ []) row)

  -- the set of the change before place k, where that lies in a stretch from a on
  abbrev set_from : ℕ → ℕ → Option ℕ
  set_from a k = cond (ltb a k) (some (change_set changes (k - 1))) none

  -- the last change of a stretch is the last one of all up to its end, where that lies in the stretch
  last-at : (a n : ℕ) → last_naming (cut a n) row ≡ set_from a (last_place changes row n)
  unfolding last_place
  last-at a zero = rw (stretch-none (change_at changes) a 0 (omega arith), le-ltb a 0 (omega arith))
  last-at a (suc n) = go (lt-cases n a) (last-at a n)
    where
      at : (t : Bool) → a ≤ n
          → or_else (cond t (some (change_set changes n)) none) (set_from a (last_place changes row n))
          ≡ set_from a (cond t (suc n) (last_place changes row n))
      at true h = let z : suc n - 1 ≡ n = omega arith in rw (lt-ltb a (suc n) (omega arith), z)
      at false h = refl

      go : (n < a) ⊎ (a ≤ n) → last_naming (cut a n) row ≡ set_from a (last_place changes row n)
          → last_naming (cut a (suc n)) row ≡ set_from a (last_place changes row (suc n))
      go (inl h) ih =
          let l = last_place changes row (suc n) in
          rw (stretch-none (change_at changes) a (suc n) (omega arith), le-ltb a l (omega (arith, place-le (suc n))))
      go (inr h) ih = last_more a n h ∙ rw ih (at (eqb (change_row changes n) row) h)

  -- what the code finds, where a change names the row and where none does
  pub last_none : (to : ℕ) → 0 ≡ last_place changes row to → None ≡ last_of changes to row
  unfolding last_of
  last_none to z = rw (← z)

  module _ (to at : ℕ) (e : at + 1 ≡ last_place changes row to) where
    pub place-fits : to ≤ 2048 → at < 2048
    place-fits h = omega (arith, place-le to)

    pub last_some : (set : ℕ) → set ≡ change_set changes at → Some (record { at = at; set = set }) ≡ last_of changes to row
    unfolding last_of last_set
    last_some set q =
        let z : last_place changes row to ≡ suc at = omega arith in
        let y : suc at - 1 ≡ at = omega arith in
        rw (last-at 0 to, z, lt-ltb 0 (suc at) (omega arith), y, q)

  -- its place and its set
  place_of-last : (n : ℕ) → place_of (last_of changes n row) ≡ last_place changes row n
  unfolding last_of
  place_of-last n = go (last_place changes row n) (last_set changes 0 n row)
    where
      go : (k set : ℕ) → place_of (change_before k set) ≡ k
      go zero set = refl
      go (suc k) set = add-one k

  pub set_of-last : (n : ℕ) → set_of (last_of changes n row) ≡ last_set changes 0 n row
  unfolding last_of last_set
  set_of-last n = go (last_place changes row n) (last_naming (cut 0 n) row) (last-at 0 n)
    where
      go : (k : ℕ) (o : Option ℕ) → o ≡ set_from 0 k → set_of (change_before k (or_empty o)) ≡ or_empty o
      go zero o e = sym (ap or_empty e)
      go (suc k) o e = refl

  -- the last change of a stretch, from that of all changes up to its end
  pub last-since : (a n : ℕ) → last_naming (cut a n) row
      ≡ cond (ltb a (place_of (last_of changes n row))) (some (set_of (last_of changes n row))) none
  unfolding last_set
  last-since a n = rw (place_of-last n, set_of-last n, last-at a n) (go (ltb a (last_place changes row n)) refl)
    where
      go : (t : Bool) → ltb a (last_place changes row n) ≡ t
          → cond t (some (change_set changes (last_place changes row n - 1))) none
          ≡ cond t (some (or_empty (last_naming (cut 0 n) row))) none
      go true h = rw (last-at 0 n, lt-ltb 0 (last_place changes row n) (omega (arith, ltb-true a (last_place changes row n) h)))
      go false h = refl

module _ (changes : List ℕ) (v r : ℕ) where
  pub flipped-none : (a b : ℕ) → b ≤ a → flipped_in changes a b v r ≡ false
  unfolding flipped_in last_set
  flipped-none a b h =
      ap (λ (cs : List Change). bit (or_empty (last_naming cs r)) v) (stretch-none (change_at changes) a b h) ∙ bit-of-zero v

  flipped-more : (a p : ℕ) → a ≤ p
      → cond (eqb (change_row changes p) r) (bit (change_set changes p) v) (flipped_in changes a p v r) ≡ flipped_in changes a (p + 1) v r
  unfolding flipped_in last_set
  flipped-more a p h =
      go (eqb (change_row changes p) r)
      ∙ ap (λ (o : Option ℕ). bit (or_empty o) v)
      (sym (ap (λ (k : ℕ). last_naming (stretch (change_at changes) a k) r) (add-one p) ∙ last_more changes r a p h))
    where
      go : (t : Bool) → cond t (bit (change_set changes p) v) (bit (or_empty (last_naming (stretch (change_at changes) a p) r)) v)
          ≡ bit (or_empty (or_else (cond t (some (change_set changes p)) none) (last_naming (stretch (change_at changes) a p) r))) v
      go true = refl
      go false = refl

-- ---- what the loop meets: no change yet, one more, all

module _ (changes : List ℕ) (from to v : ℕ) where
  pub mask-none : (n : ℕ) → replicate n 0 ≡ vec (flipped_in changes from from v) n
  mask-none n =
      zeros-vec n ∙ vec-ext (λ r. false) (flipped_in changes from from v) n (λ r l. sym (flipped-none changes v r from from (omega arith)))

  pub mask-more : (p : ℕ) (m m' : List ℕ) → RowsLow changes from to → from ≤ p → p < to
      → m ≡ vec (flipped_in changes from p v) 32 → m' ≡ marked m changes p v → m' ≡ vec (flipped_in changes from (p + 1) v) 32
  unfolding marked
  mask-more p m m' f h l e q =
      q ∙ ap (λ (w : List ℕ). put_at w (change_row changes p) (bit (change_set changes p) v)) e
      ∙ put-vec (flipped_in changes from p v) 32 (change_row changes p) (omega (arith, f.rows-low p h l)) (bit (change_set changes p) v)
      ∙ vec-ext (λ r. cond (eqb (change_row changes p) r) (bit (change_set changes p) v) (flipped_in changes from p v r))
      (flipped_in changes from (p + 1) v) 32
      (λ r k. flipped-more changes v r from p h)

  pub mask-all : (p : ℕ) (m : List ℕ) → from ≤ p → p - to ≤ from - to → to ≤ p → m ≡ vec (flipped_in changes from p v) 32
      → m ≡ vec (flipped_in changes from to v) 32
  mask-all p m h k l e =
      ⊎_elim (λ (o : from < to). let z : p ≡ to = omega arith in e ∙ ap (λ (j : ℕ). vec (flipped_in changes from j v) 32) z)
      (λ (o : to ≤ from). e ∙ vec-ext (flipped_in changes from p v) (flipped_in changes from to v) 32
      (λ r n. flipped-none changes v r from p (omega arith) ∙ sym (flipped-none changes v r from to o))) (lt-cases from to)

-- the change that a mark is of
pub mark-is : (m m' changes : List ℕ) (p v row row' set : ℕ) (on : Bool) → row ≡ change_row changes p → set ≡ change_set changes p
    → on ≡ bit set v
    → row' ≡ row → m' ≡ put_at m row' on → m' ≡ marked m changes p v
unfolding marked
mark-is m m' changes p v row row' set on e q o z x = x ∙ ap₂ (put_at m) (z ∙ e) (o ∙ ap (λ (n : ℕ). bit n v) q)
