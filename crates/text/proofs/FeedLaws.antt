-- Laws of the code that gathers lines: blocks without a newline, bytes copied, and a line fed.
use Rattle.std.proofs.Common.{◌≡◌, ℕ, zero, suc, ◌+◌, ◌-◌, ◌<◌, ◌≤◌, min, Bool, true, false, ◌||◌, eqb, List, [], ◌∷◌, ◌++◌, length, get_or, take, drop, sym, refl, ap, ◌∙◌, append_assoc, append-nil, add-one, arith, length-append, drop_of_length-le, length-take, length-take-le, take_all, drop-cons, take-suc, take-take, drop-drop, take_at}
use mathlib.Core.Bool.{or-false, or_assoc}
use borrow.Author.Tests.{eqb-false}
use Rattle.std.specs.Prelude.{Some, None}
use borrow.Rule.Slice.PartMut.{put_mid}
use Rattle.std.proofs.lemmas.Slice.{put_mid-paste}
use lib.Seq.{sets, sets-eq, length-sets, take-append-add, take-nil}
use Rattle.fields.specs.Split.{newline}
use Rattle.fields.specs.Places.{up_to, part_at, end_at}
use Rattle.text.specs.Feed.{cut, pend, has_byte, Gathered, whole_line, Feeds}
use Rattle.fields.proofs.SplitLaws.{end_step, end_fits, end-past, take_part}

-- ---- whether one of the bytes is s

has-append : (s : ℕ) (a b : List ℕ) → has_byte s (a ++ b) ≡ has_byte s a || has_byte s b
unfolding has_byte
has-append s [] b = refl
has-append s (x ∷ a) b = rw (has-append s a b) (sym (or_assoc (eqb x s) (has_byte s a) (has_byte s b)))

pub found_none : (s : ℕ) (l : List ℕ) → false ≡ has_byte s (take 0 l)
unfolding has_byte
found_none s l = refl

pub found-step : (s : ℕ) (l : List ℕ) (i : ℕ) (t : Bool) → t ≡ has_byte s (take i l) → i < length l
    → t || eqb (get_or l i 0) s ≡ has_byte s (take (i + 1) l)
unfolding has_byte
found-step s l i t e h =
    rw (add-one, take-suc l i 0 h, has-append s (take i l) (get_or l i 0 ∷ []), or-false (eqb (get_or l i 0) s), e)

pub found_all : (s : ℕ) (l : List ℕ) (i : ℕ) (t : Bool) → t ≡ has_byte s (take i l) → length l ≤ i → t ≡ has_byte s l
found_all s l i t e h = e ∙ rw (take_all i l h)

-- ---- a block without it

pub or-none : (a b : Bool) → a || b ≡ false → (a ≡ false) × (b ≡ false)
or-none true b h = (h, cc)
or-none false b h = (refl, h)

pass : (s : ℕ) (l : List ℕ) (k i : ℕ) → i + k ≤ length l → has_byte s (take k (drop i l)) ≡ false → end_at s l i ≡ end_at s l (i + k)
unfolding has_byte
pass s l zero i h e = let z : i + 0 ≡ i = omega arith in rw z
pass s l (suc k) i h e =
    let p : i + suc k ≡ i + 1 + k = omega arith in
    let c : drop i l ≡ get_or l i 0 ∷ drop (i + 1) l = drop-cons l i 0 (omega arith) ∙ rw add-one in
    let n = or-none (eqb (get_or l i 0) s) (has_byte s (take k (drop (i + 1) l))) (rw c at e) in
    end_step s l i (omega arith) (eqb-false (get_or l i 0) s n.0) ∙ rw p (pass s l k (i + 1) (omega arith) n.1)

pub block-step : (l : List ℕ) (from i : ℕ) (r : Bool) → end_at newline l from ≡ end_at newline l i → i ≤ length l → 64 ≤ length l - i
    → r ≡ has_byte newline (take (i + 64 - i) (drop i l)) → r ≡ false → end_at newline l from ≡ end_at newline l (i + 64)
block-step l from i r w h k e q =
    let z : i + 64 - i ≡ 64 = omega arith in
    w ∙ pass newline l 64 i (omega arith) (ap (λ (n : ℕ). has_byte newline (take n (drop i l))) (sym z) ∙ sym e ∙ q)

pub ends_same : (s : ℕ) (l : List ℕ) (from i k j r : ℕ) → end_at s l from ≡ end_at s l i → i ≡ k
    → (j ≤ length l) × (end_at s l k ≡ end_at s l j) → r ≡ end_at s l j → r ≡ end_at s l from
ends_same s l from i k j r w z v e = e ∙ sym (w ∙ ap (end_at s l) z ∙ v.1)

-- ---- gathered

take_min : (a : ℕ) (l : List ℕ) → take (min a (length l)) l ≡ take a l
take_min zero l = let z : min 0 (length l) ≡ 0 = omega arith in rw z
take_min (suc a) [] = take-nil (min (suc a) 0)
take_min (suc a) (x ∷ l) =
    let z : min (suc a) (suc (length l)) ≡ suc (min a (length l)) = omega arith in
    rw z (ap (λ (r : List ℕ). x ∷ r) (take_min a l))

-- what is copied to the places from len to e
pub gathered : (d part p : List ℕ) (len e : ℕ) → len ≤ length d → e ≡ min (length d) (len + length part) → p ≡ take (e - len) part
    → Gathered d len part (put_mid len (e - len) d p) e
gathered d part p len e h m q =
    let n : e - len ≡ min (length d - len) (length part) = omega arith in
    let t : take (e - len) part ≡ take (length d - len) part = rw n (take_min (length d - len) part) in
    let k : p ≡ take (length d - len) part = q ∙ t in
    let z : length p ≡ e - len = rw k (omega (arith, length-take (length d - len) part)) in
    let w : put_mid len (e - len) d p ≡ sets d len p
    = put_mid-paste len (e - len) d p p (length p) refl z refl ∙ rw (take_all (length p) p (omega arith)) (sym (sets-eq p d len (omega arith))) in
    record {
      list-is = w ∙ rw k;
      place_is = omega (arith, length-take (length d - len) part);
      room = rw w (length-sets d len p);
    }

-- what is then held: the pending bytes and the part, as far as there is room
pub gathered-held : (d part f : List ℕ) (len r : ℕ) → len ≤ length d → Gathered d len part f r
    → take r f ≡ take (length d) (take len d ++ part)
gathered-held d part f len r h g =
    let fit = take (length d - len) part in
    let a : length (take len d) ≡ len = length-take-le len d h in
    let b : len + length fit ≤ length d = omega (arith, length-take (length d - len) part) in
    let c : f ≡ (take len d ++ fit) ++ drop (len + length fit) d = g.list-is ∙ sets-eq fit d len b in
    let k : length (take len d ++ fit) ≡ r = length-append (take len d) fit ∙ omega (arith, a, g.place_is) in
    let m : length (take len d) + (length d - len) ≡ length d = omega (arith, a) in
    ap (take r) c ∙ take_at (take len d ++ fit) (drop (len + length fit) d) r k
    ∙ sym (ap (λ (n : ℕ). take n (take len d ++ part)) (sym m) ∙ take-append-add (take len d) part (length d - len))

pub gathered-fits : (d part f : List ℕ) (len r : ℕ) → len ≤ length d → Gathered d len part f r → r ≤ length d
gathered-fits d part f len r h g = omega (arith, g.place_is, length-take (length d - len) part)

-- ---- the first line of what is left of a chunk

unfoldable cut_next : List ℕ → List ℕ → List ℕ → List (List ℕ)
cut_next p f [] = []
cut_next p f (b ∷ rest) = (p ++ f) ∷ cut [] rest

unfoldable pend_next : List ℕ → List ℕ → List ℕ → List ℕ
pend_next p f [] = p ++ f
pend_next p f (b ∷ rest) = pend [] rest

next-longer : (p : List ℕ) (b : ℕ) (f rest : List ℕ) → cut_next (p ++ b ∷ []) f rest ≡ cut_next p (b ∷ f) rest
unfolding cut_next
next-longer p b f [] = refl
next-longer p b f (x ∷ rest) = rw append_assoc

pend-longer : (p : List ℕ) (b : ℕ) (f rest : List ℕ) → pend_next (p ++ b ∷ []) f rest ≡ pend_next p (b ∷ f) rest
unfolding pend_next
pend-longer p b f [] = rw append_assoc
pend-longer p b f (x ∷ rest) = refl

cut-part : (p l : List ℕ) → cut p l ≡ cut_next p (up_to newline l) (drop (length (up_to newline l)) l)
unfolding cut up_to cut_next
cut-part p [] = refl
cut-part p (b ∷ l) = go (eqb b newline) refl (cut-part (p ++ b ∷ []) l)
  where
    go : (t : Bool) → eqb b newline ≡ t → cut (p ++ b ∷ []) l ≡ cut_next (p ++ b ∷ []) (up_to newline l) (drop (length (up_to newline l)) l)
        → cut p (b ∷ l) ≡ cut_next p (up_to newline (b ∷ l)) (drop (length (up_to newline (b ∷ l))) (b ∷ l))
    go true e h = rw (e, append-nil p)
    go false e h = rw (e, h, next-longer p b (up_to newline l) (drop (length (up_to newline l)) l))

pend-part : (p l : List ℕ) → pend p l ≡ pend_next p (up_to newline l) (drop (length (up_to newline l)) l)
unfolding pend up_to pend_next
pend-part p [] = sym (append-nil p)
pend-part p (b ∷ l) = go (eqb b newline) refl (pend-part (p ++ b ∷ []) l)
  where
    go : (t : Bool) → eqb b newline ≡ t → pend (p ++ b ∷ []) l ≡ pend_next (p ++ b ∷ []) (up_to newline l) (drop (length (up_to newline l)) l)
        → pend p (b ∷ l) ≡ pend_next p (up_to newline (b ∷ l)) (drop (length (up_to newline (b ∷ l))) (b ∷ l))
    go true e h = rw e
    go false e h = rw (e, h, pend-longer p b (up_to newline l) (drop (length (up_to newline l)) l))

-- the bytes from a place up to where its part ends
abbrev pub span : ℕ → ℕ → List ℕ → List ℕ
span i e l = take (e - i) (drop i l)

span-part : (s : ℕ) (l : List ℕ) (i e : ℕ) → e ≡ end_at s l i → span i e l ≡ part_at s l i
unfolding end_at
span-part s l i e h = let z : e - i ≡ length (part_at s l i) = omega arith in rw z (take_part s (drop i l))

module _ (bytes p : List ℕ) (at e : ℕ) (h : e ≡ end_at newline bytes at) where
  rest-is : drop (length (part_at newline bytes at)) (drop at bytes) ≡ drop e bytes
  unfolding end_at
  rest-is = drop-drop (length (part_at newline bytes at)) at bytes ∙ rw h

  cut-last : length bytes ≤ e → cut p (drop at bytes) ≡ []
  unfolding cut_next
  cut-last k = cut-part p (drop at bytes) ∙ rw (rest-is, drop_of_length-le bytes {i = e} k)

  pend-last : length bytes ≤ e → pend p (drop at bytes) ≡ p ++ part_at newline bytes at
  unfolding pend_next
  pend-last k = pend-part p (drop at bytes) ∙ rw (rest-is, drop_of_length-le bytes {i = e} k)

  cut-more : e < length bytes → cut p (drop at bytes) ≡ (p ++ part_at newline bytes at) ∷ cut [] (drop (e + 1) bytes)
  unfolding cut_next
  cut-more k = cut-part p (drop at bytes) ∙ rw (rest-is, drop-cons bytes e 0 k, add-one e)

  pend-more : e < length bytes → pend p (drop at bytes) ≡ pend [] (drop (e + 1) bytes)
  unfolding pend_next
  pend-more k = pend-part p (drop at bytes) ∙ rw (rest-is, drop-cons bytes e 0 k, add-one e)

-- ---- a line fed: e is where it ends, n how many bytes are then held

module _ (d bytes f : List ℕ) (len at e n : ℕ) (h : e ≡ end_at newline bytes at) (g : Gathered d len (span at e bytes) f n)
    (l : len ≤ length d) where
  held : take n f ≡ take (length d) (take len d ++ part_at newline bytes at)
  held = gathered-held d (span at e bytes) f len n l g ∙ rw (span-part newline bytes at e h)

  pub feeds-whole : e < length bytes → Feeds d len bytes at f (record { line = Some n; len = 0; next = e + 1 })
  unfolding whole_line
  feeds-whole k =
      record {
        lines_are = rw (cut-more bytes (take len d) at e h k, held);
        pending-is = rw (pend-more bytes (take len d) at e h k);
        room = g.room;
        line-fits = gathered-fits d (span at e bytes) f len n l g;
        len-fits = omega arith;
        goes_on = omega (arith, end-past newline bytes at);
        within = omega arith;
      }

  pub feeds-part : length bytes ≤ e → at < length bytes → Feeds d len bytes at f (record { line = None; len = n; next = e })
  unfolding whole_line cut pend
  feeds-part k i =
      let z : drop e bytes ≡ [] = drop_of_length-le bytes {i = e} k in
      record {
        lines_are = rw (cut-last bytes (take len d) at e h k, z);
        pending-is =
            rw (pend-last bytes (take len d) at e h k, z, held)
            (sym (take-take (length d) (length d) (take len d ++ part_at newline bytes at) (omega arith)));
        room = g.room;
        line-fits = tt;
        len-fits = gathered-fits d (span at e bytes) f len n l g;
        goes_on = omega arith;
        within = rw h (end_fits newline bytes at (omega arith));
      }

pub feed-between : (bytes : List ℕ) (at e : ℕ) → e ≡ end_at newline bytes at → at < length bytes → (at ≤ e) × (e ≤ length bytes)
feed-between bytes at e h k = (rw h (end-past newline bytes at), rw h (end_fits newline bytes at (omega arith)))
