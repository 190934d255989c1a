-- The laws by bits of the machine's operations: a number is its bits.
use mathlib.Core.Path.{◌≡◌, refl, sym, ap, ap₂, ◌∙◌, subst}
use mathlib.Core.Bool.{Bool, true, false, not, ◌&&◌, ◌||◌, or_comm, true≢false}
use Prim.Native.Nat.{ℕ, zero, suc, ◌+◌, ◌*◌, ◌/◌, ◌%◌, ◌^◌, ◌≤◌, ◌<◌}
use native.Mathlib.Nat.{div-one, div-div-eq-div-mul, pow-succ', mod-lt, one-mul, lt_of_lt_of_le, div-eq_of_lt, zero-div, zero-lt-suc}
use native.Mathlib.Nat.{pow-suc, mul-mod_left, mul-div_cancel, div-lt_iff_lt-mul}
use native.Mathlib.Omega.{arith}
use lib.Dec.{lit<, eqb, eqb-zero-suc, eqb-suc-zero, eqb-suc-suc}
use lib.Arith.{lt-one}
use lib.Pow.{pow_pos, pow_mono, pow-lt, shl_exact, shr-shr}
use lib.Bits.{bit_or, bit_xor, or_shr, xor_shr, or_mod, xor_mod, xor_lt, or_lt}
use Rattle.bits.specs.Bit.{xorb, bit, flip_bit, set_bit, clear_bit}

pub xorb-comm : (x y : Bool) → xorb x y ≡ xorb y x
xorb-comm true true = refl
xorb-comm true false = refl
xorb-comm false true = refl
xorb-comm false false = refl

pub xorb-twice : (x y : Bool) → xorb x (xorb x y) ≡ y
xorb-twice true true = refl
xorb-twice true false = refl
xorb-twice false y = refl

pub xorb-swap : (x y z : Bool) → xorb x (xorb y z) ≡ xorb y (xorb x z)
xorb-swap true true z = refl
xorb-swap true false z = refl
xorb-swap false true z = refl
xorb-swap false false z = refl

cleared : (x y : Bool) → xorb (x || y) y ≡ not y && x
cleared true true = refl
cleared true false = refl
cleared false true = refl
cleared false false = refl

-- ---- the lowest bit, and the rest

pub bit-zero : (n : ℕ) → bit n 0 ≡ eqb (n % 2) 1
unfolding bit
bit-zero n = rw div-one

pub bit-suc : (n k : ℕ) → bit n (suc k) ≡ bit (n / 2) k
unfolding bit
bit-suc n k = rw (pow-succ', ← div-div-eq-div-mul)

pub bit-of-zero : (k : ℕ) → bit 0 k ≡ false
unfolding bit
bit-of-zero k = rw zero-div

-- ---- a number is its bits

parity : (x y : ℕ) → x < 2 → y < 2 → eqb x 1 ≡ eqb y 1 → x ≡ y
parity zero zero p q e = refl
parity zero (suc zero) p q e = absurd (true≢false (sym e))
parity (suc zero) zero p q e = absurd (true≢false e)
parity (suc zero) (suc zero) p q e = refl
parity zero (suc (suc y)) p q e = omega arith
parity (suc zero) (suc (suc y)) p q e = omega arith
parity (suc (suc x)) y p q e = omega arith

pub bit-ext : (n a b : ℕ) → a < 2 ^ n → b < 2 ^ n → ((k : ℕ) → k < n → bit a k ≡ bit b k) → a ≡ b
bit-ext zero a b p q h = lt-one p ∙ sym (lt-one q)
bit-ext (suc n) a b p q h =
    let P : a < 2 * 2 ^ n = rw pow-succ' at p in
    let Q : b < 2 * 2 ^ n = rw pow-succ' at q in
    let hi : a / 2 ≡ b / 2 = bit-ext n (a / 2) (b / 2) (omega arith) (omega arith) (λ k l. sym (bit-suc a k) ∙ h (suc k) (omega arith)
    ∙ bit-suc b k) in
    let lo : a % 2 ≡ b % 2 = parity (a % 2) (b % 2) (omega arith) (omega arith) (sym (bit-zero a) ∙ h 0 (omega arith) ∙ bit-zero b) in
    omega arith

-- ---- the bits of the operations: an operation that works on each digit apart, with the table g on digits

low : (n : ℕ) → n % 2 < 2
low n = mod-lt n (zero-lt-suc 1)

module _ (op : ℕ → ℕ → ℕ) (g : Bool → Bool → Bool)
    (ff : eqb (op 0 0) 1 ≡ g false false) (ft : eqb (op 0 1) 1 ≡ g false true) (tf : eqb (op 1 0) 1 ≡ g true false)
    (tt' : eqb (op 1 1) 1 ≡ g true true) where
  digits : (x y : ℕ) → x < 2 → y < 2 → eqb (op x y) 1 ≡ g (eqb x 1) (eqb y 1)
  digits zero zero p q = ff
  digits zero (suc zero) p q = ft
  digits (suc zero) zero p q = tf
  digits (suc zero) (suc zero) p q = tt'
  digits zero (suc (suc y)) p q = absurd (omega arith)
  digits (suc zero) (suc (suc y)) p q = absurd (omega arith)
  digits (suc (suc x)) y p q = absurd (omega arith)

  bit-op : ((a b k : ℕ) → op a b / 2 ^ k ≡ op (a / 2 ^ k) (b / 2 ^ k)) → ((a b k : ℕ) → op a b % 2 ^ k ≡ op (a % 2 ^ k) (b % 2 ^ k))
      → (a b k : ℕ) → bit (op a b) k ≡ g (bit a k) (bit b k)
  unfolding bit
  bit-op hs hm a b k =
      ap (λ (x : ℕ). eqb (x % 2) 1) (hs a b k) ∙ ap (λ (x : ℕ). eqb x 1) (hm (a / 2 ^ k) (b / 2 ^ k) 1)
      ∙ digits (a / 2 ^ k % 2) (b / 2 ^ k % 2) (low (a / 2 ^ k)) (low (b / 2 ^ k))

pub bit-xor : (a b k : ℕ) → bit (bit_xor a b) k ≡ xorb (bit a k) (bit b k)
bit-xor = bit-op bit_xor xorb refl refl refl refl xor_shr xor_mod

pub bit-or : (a b k : ℕ) → bit (bit_or a b) k ≡ bit a k || bit b k
bit-or = bit-op bit_or (λ x y. x || y) refl refl refl refl or_shr or_mod

-- ---- single bits, and bits past the end

pub bit-pow : (k j : ℕ) → bit (2 ^ k) j ≡ eqb k j
unfolding bit
bit-pow zero zero = refl
bit-pow zero (suc j) = bit-suc 1 j ∙ bit-of-zero j ∙ sym (eqb-zero-suc j)
bit-pow (suc k) zero = bit-zero (2 ^ suc k) ∙ ap (λ (x : ℕ). eqb (x % 2) 1) (pow-suc 2 k) ∙ ap (λ (x : ℕ). eqb x 1) (mul-mod_left (2 ^ k) 2)
    ∙ sym (eqb-suc-zero k)
bit-pow (suc k) (suc j) =
    bit-suc (2 ^ suc k) j ∙ ap (λ (x : ℕ). bit (x / 2) j) (pow-suc 2 k) ∙ ap (λ (x : ℕ). bit x j) (mul-div_cancel (2 ^ k) (zero-lt-suc 1))
    ∙ bit-pow k j ∙ sym (eqb-suc-suc k j)

-- a number below 2 ^ n has no bit at or above n
pub bit-above : (n a k : ℕ) → a < 2 ^ n → n ≤ k → bit a k ≡ false
unfolding bit
bit-above n a k h l = ap (λ (x : ℕ). eqb (x % 2) 1) (div-eq_of_lt (lt_of_lt_of_le h (pow_mono l)))

pub bit-shr : (a j k : ℕ) → bit (a / 2 ^ j) k ≡ bit a (j + k)
unfolding bit
bit-shr a j k = ap (λ (x : ℕ). eqb (x % 2) 1) (shr-shr a j k)

-- a number with no bit is 0
pub bit-none : (m a : ℕ) → a < 2 ^ m → ((k : ℕ) → k < m → bit a k ≡ false) → a ≡ 0
bit-none m a h z = bit-ext m a 0 h (pow_pos m) (λ k l. z k l ∙ sym (bit-of-zero k))

-- a number with nothing left above its bit n is below 2 ^ n
pub shr-none : (a n : ℕ) → a / 2 ^ n ≡ 0 → a < 2 ^ n
shr-none a n e = subst (λ (x : ℕ). a < x) (one-mul (2 ^ n)) ((div-lt_iff_lt-mul (pow_pos n)).0 (omega arith))

pub bit-flip : (n k j : ℕ) → bit (flip_bit n k) j ≡ xorb (eqb k j) (bit n j)
unfolding flip_bit
bit-flip n k j = bit-xor n (2 ^ k) j ∙ ap (xorb (bit n j)) (bit-pow k j) ∙ xorb-comm (bit n j) (eqb k j)

pub bit-set : (n k j : ℕ) → bit (set_bit n k) j ≡ eqb k j || bit n j
unfolding set_bit
bit-set n k j = bit-or n (2 ^ k) j ∙ ap (λ (b : Bool). bit n j || b) (bit-pow k j) ∙ or_comm (bit n j) (eqb k j)

pub bit-clear : (n k j : ℕ) → bit (clear_bit n k) j ≡ not (eqb k j) && bit n j
unfolding clear_bit
bit-clear n k j =
    bit-xor (bit_or n (2 ^ k)) (2 ^ k) j ∙ ap₂ xorb (bit-or n (2 ^ k) j) (bit-pow k j)
    ∙ ap (λ (b : Bool). xorb (bit n j || b) (eqb k j)) (bit-pow k j)
    ∙ cleared (bit n j) (eqb k j)

pub flip-lt : (c n k : ℕ) → n < 2 ^ c → k < c → flip_bit n k < 2 ^ c
unfolding flip_bit
flip-lt c n k h l = xor_lt c n (2 ^ k) h (pow-lt l)

pub set-lt : (c n k : ℕ) → n < 2 ^ c → k < c → set_bit n k < 2 ^ c
unfolding set_bit
set-lt c n k h l = or_lt c n (2 ^ k) h (pow-lt l)

pub clear-lt : (c n k : ℕ) → n < 2 ^ c → k < c → clear_bit n k < 2 ^ c
unfolding clear_bit
clear-lt c n k h l = xor_lt c (bit_or n (2 ^ k)) (2 ^ k) (or_lt c n (2 ^ k) h (pow-lt l)) (pow-lt l)

-- what `1 << k` is
pub one_shl : (w k : ℕ) → k < w → (1 * 2 ^ k) % 2 ^ w ≡ 2 ^ k
one_shl w k l = shl_exact 1 k w (lit< tt) (omega arith) ∙ one-mul (2 ^ k)
