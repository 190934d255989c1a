-- What `trailing_zeros` finds: no bit below it, and the bit at it.
use mathlib.Core.Path.{◌≡◌, refl, sym, ◌∙◌, subst}
use mathlib.Core.Bool.{Bool, true, false}
use Prim.Native.Nat.{ℕ, zero, suc, ◌/◌, ◌%◌, ◌^◌, ◌<◌}
use native.Mathlib.Omega.{arith}
use native.Mathlib.Nat.{not-suc-le-zero, le_of_suc-le-suc, div-lt_iff_lt-mul, pow-suc, zero-lt-suc, lt_irrefl}
use lib.Dec.{eqb}
use lib.Arith.{lt-one}
use lib.Count.{count_trailing_zeros, under}
use Rattle.bits.specs.Bit.{bit}
use Rattle.bits.proofs.BitLaws.{bit-zero, bit-suc}

low_step : (r t : ℕ) (b : ℕ → Bool) → eqb r 1 ≡ b 0 → r < 2 → ((k : ℕ) → k < t → b (suc k) ≡ false) → (k : ℕ) → k < under r t → b k ≡ false
low_step zero t b e h ih zero l = sym e
low_step zero t b e h ih (suc k) l = ih k (le_of_suc-le-suc l)
low_step (suc r) t b e h ih k l = absurd (not-suc-le-zero l)

pub tz-low : (n x k : ℕ) → k < count_trailing_zeros n x → bit x k ≡ false
unfolding count_trailing_zeros
tz-low zero x k l = absurd (not-suc-le-zero l)
tz-low (suc n) x k l =
    low_step (x % 2) (count_trailing_zeros n (x / 2)) (bit x) (sym (bit-zero x)) (omega arith)
    (λ j m. bit-suc x j ∙ tz-low n (x / 2) j m) k l

bit-step : (r t : ℕ) (b : ℕ → Bool) → eqb r 1 ≡ b 0 → r < 2 → (r ≡ 0 → b (suc t) ≡ true) → b (under r t) ≡ true
bit-step zero t b e h ih = ih refl
bit-step (suc zero) t b e h ih = sym e
bit-step (suc (suc r)) t b e h ih = absurd (omega arith)

pub tz-bit : (n x : ℕ) → x < 2 ^ n → 0 < x → bit x (count_trailing_zeros n x) ≡ true
unfolding count_trailing_zeros
tz-bit zero x h p = absurd (lt_irrefl 0 (subst (λ (y : ℕ). 0 < y) (lt-one h) p))
tz-bit (suc n) x h p =
    bit-step (x % 2) (count_trailing_zeros n (x / 2)) (bit x) (sym (bit-zero x)) (omega arith)
    (λ e. bit-suc x (count_trailing_zeros n (x / 2))
    ∙ tz-bit n (x / 2) ((div-lt_iff_lt-mul (zero-lt-suc 1)).1 (subst (λ (y : ℕ). x < y) (pow-suc 2 n) h)) (omega arith))
