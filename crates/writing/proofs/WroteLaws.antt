-- Laws of bytes written one after another: digits, numbers, answers.
use mathlib.Core.Path.{◌≡◌, refl, sym, ap, ◌∙◌}
use mathlib.Core.List.{List, [], ◌∷◌, ◌++◌, append_assoc}
use mathlib.Core.Option.{none}
use Prim.Native.Nat.{ℕ, suc, ◌+◌, ◌-◌, ◌*◌, ◌/◌, ◌%◌, ◌^◌, ◌<◌, ◌≤◌}
use native.Mathlib.Omega.{arith}
use borrow.Rule.Slice.PartMut.{put_mid}
use lib.ListN.{length, take, drop, get_or, length-append}
use lib.Seq.{sets, sets-eq, length-sets, drop-drop}
use Rattle.bits.proofs.TabLaws.{length-tab, get_or-tab, sets-append}
use Rattle.rules.specs.Calls.{Answer, refused, ok, value}
use Rattle.text.specs.Bytes.{bytes}
use Rattle.fields.specs.Split.{newline}
use Rattle.text.specs.Show.{decimal, spaced, show}
use Rattle.writing.specs.Wrote.{Wrote, Answered, two_digits, four_digits, pair_byte, pairs, field_of}
use Rattle.writing.proofs.ShowLaws.{decimal_digit, decimal-2, decimal-3, decimal-4, decimal-large, decimal-fits}
use Rattle.writing.proofs.ShowLaws.{spaced-one, ok-append}

-- ---- one after another

pub wrote_then : (d a e b f : List ℕ) (at m n : ℕ) → Wrote d at a e m → Wrote e m b f n → Wrote d at (a ++ b) f n
wrote_then d a e b f at m n u v =
    record {
      list-is = v.list-is ∙ rw (u.list-is, u.place_is, sets-append a b d at);
      place_is = omega (arith, u.place_is, v.place_is, length-append a b);
      room = v.room ∙ u.room;
    }

-- bytes copied to a part of their length
pub wrote-part : (d bs ys : List ℕ) (at : ℕ) → at + length bs ≤ length d → ys ≡ bs
    → Wrote d at bs (put_mid at (at + length bs - at) d ys) (at + length bs)
wrote-part d bs ys at h e =
    let k : at + length bs - at ≡ length bs = omega arith in
    let s : put_mid at (at + length bs - at) d ys ≡ sets d at bs = rw (e, k, drop-drop (length bs) at d) (sym (sets-eq bs d at h ∙ append_assoc (take at d) bs (drop (at + length bs) d))) in
    record { list-is = s; place_is = refl; room = ap length s ∙ length-sets d at bs }

-- ---- digits

-- two digits of the text of the numbers below 100
pub pairs-length : (text : List ℕ) → text ≡ pairs → length text ≡ 200
unfolding pairs
pairs-length text e = ap length e ∙ length-tab pair_byte 200

pub wrote-two : (d e f text : List ℕ) (at m n r : ℕ) → n < 100 → text ≡ pairs → Wrote d at (get_or text (2 * n) 0 ∷ []) e m
    → Wrote e m (get_or text (2 * n + 1) 0 ∷ []) f r → Wrote d at (two_digits n) f r
unfolding pairs pair_byte
wrote-two d e f text at m n r h t u v =
    let a : 2 * n % 2 ≡ 0 = omega arith in
    let b : (2 * n + 1) % 2 ≡ 1 = omega arith in
    let c : 2 * n / 2 ≡ n = omega arith in
    let g : (2 * n + 1) / 2 ≡ n = omega arith in
    let x : get_or text (2 * n) 0 ≡ 48 + n / 10 = rw t (get_or-tab pair_byte 200 (2 * n) 0 (omega arith) ∙ rw (a, c)) in
    let y : get_or text (2 * n + 1) 0 ≡ 48 + n % 10 = rw t (get_or-tab pair_byte 200 (2 * n + 1) 0 (omega arith) ∙ rw (b, g)) in
    rw (← x, ← y) (wrote_then d (get_or text (2 * n) 0 ∷ []) e (get_or text (2 * n + 1) 0 ∷ []) f at m r u v)

pub wrote-four : (d e f : List ℕ) (at m n r : ℕ) → Wrote d at (two_digits (n / 100)) e m → Wrote e m (two_digits (n % 100)) f r
    → Wrote d at (four_digits n) f r
wrote-four d e f at m n r u v = wrote_then d (two_digits (n / 100)) e (two_digits (n % 100)) f at m r u v

module _ (d f : List ℕ) (at n r : ℕ) where
  pub number-1 : (b : ℕ) → b ≡ 48 + n → Wrote d at (b ∷ []) f r → n < 10 → Wrote d at (decimal n) f r
  number-1 b e w h = rw (decimal_digit n h, ← e) w

  pub number-2 : Wrote d at (two_digits n) f r → 10 ≤ n → n < 100 → Wrote d at (decimal n) f r
  number-2 w l h = rw (decimal-2 n l h) w

  pub number-3 : (e : List ℕ) (m b : ℕ) → b ≡ 48 + n / 100 → Wrote d at (b ∷ []) e m → Wrote e m (two_digits (n % 100)) f r → 100 ≤ n
      → n < 1000 → Wrote d at (decimal n) f r
  number-3 e m b q u v l h = rw (decimal-3 n l h, ← q) (wrote_then d (b ∷ []) e (two_digits (n % 100)) f at m r u v)

  pub number-4 : Wrote d at (four_digits n) f r → 1000 ≤ n → n < 10000 → Wrote d at (decimal n) f r
  number-4 w l h = rw (decimal-4 n l h) w

  pub number-large : (e : List ℕ) (m : ℕ) → Wrote d at (decimal (n / 10000)) e m → Wrote e m (four_digits (n % 10000)) f r → 10000 ≤ n
      → Wrote d at (decimal n) f r
  number-large e m u v l = rw (decimal-large n l) (wrote_then d (decimal (n / 10000)) e (four_digits (n % 10000)) f at m r u v)

-- how far the place moves
pub number-far : (k : ℕ) (d f : List ℕ) (at n r : ℕ) → Wrote d at (decimal n) f r → n < 10 ^ suc k → r ≤ at + suc k
number-far k d f at n r w h = omega (arith, w.place_is, decimal-fits k n h)

-- a field of a number of 32 bits, and of a row
pub field-far : (d f : List ℕ) (at n r : ℕ) → Wrote d at (field_of n) f r → n < 2 ^ 32 → r ≤ at + 11
field-far d f at n r w h = omega (arith, w.place_is, decimal-fits 9 n (omega arith))

-- ---- fields and answers

pub wrote-field : (d e f : List ℕ) (at m n r : ℕ) → Wrote d at (32 ∷ []) e m → Wrote e m (decimal n) f r → Wrote d at (field_of n) f r
wrote-field d e f at m n r u v = wrote_then d (32 ∷ []) e (decimal n) f at m r u v

pub no_one : (d e f : List ℕ) (m n r : ℕ) → n < 2 ^ 32 → Wrote d 0 (bytes "no") e m → Wrote e m (field_of n) f r → Answered d (refused n) f r 13
unfolding show
no_one d e f m n r h u w =
    record {
      wrote = rw (spaced-one n) (wrote_then d (bytes "no") e (field_of n) f 0 m r u w);
      short = omega (arith, u.place_is, field-far e f m n r w h);
    }

pub ok-none : (d e : List ℕ) (r : ℕ) → Wrote d 0 (bytes "ok") e r → Answered d (ok []) e r 2
unfolding show spaced
ok-none d e r u = record { wrote = u; short = omega (arith, u.place_is) }

pub ok-dash : (d e : List ℕ) (r : ℕ) → Wrote d 0 (bytes "ok -") e r → Answered d (value none) e r 4
unfolding show
ok-dash d e r u = record { wrote = u; short = omega (arith, u.place_is) }

-- `ok` and numbers, then more
pub ok-then : (ns ms d e f : List ℕ) (m r : ℕ) → Wrote d 0 (show (ok ns)) e m → Wrote e m (spaced ms) f r
    → Wrote d 0 (show (ok (ns ++ ms))) f r
ok-then ns ms d e f m r u v = rw (← ok-append ns ms) (wrote_then d (show (ok ns)) e (spaced ms) f 0 m r u v)

-- and one number more
pub ok-more : (ns ms d e f : List ℕ) (m n r k most : ℕ) → n < 2 ^ 32 → Answered d (ok ns) e m k → Wrote e m (field_of n) f r
    → ns ++ n ∷ [] ≡ ms
    → k + 11 ≤ most → Answered d (ok ms) f r most
ok-more ns ms d e f m n r k most h u v q l =
    rw (← q)
    record {
      wrote = ok-then ns (n ∷ []) d e f m r u.wrote (rw (spaced-one n) v);
      short = omega (arith, u.short, field-far e f m n r v h);
    }

-- an answer and its newline
pub answer-line : (a : Answer) (d e f : List ℕ) (n r most : ℕ) → Answered d a e n most → Wrote e n (newline ∷ []) f r
    → Wrote d 0 (show a ++ newline ∷ []) f r
answer-line a d e f n r most u v = wrote_then d (show a) e (newline ∷ []) f 0 n r u.wrote v
