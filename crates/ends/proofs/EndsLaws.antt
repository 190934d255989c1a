-- Writes and reads, one after another.
use mathlib.Core.Path.{◌≡◌, refl, sym, ap, ap₂, ◌∙◌}
use mathlib.Core.Bool.{Bool, true, false, true≢false}
use mathlib.Core.List.{List, [], ◌++◌, append_assoc, append-nil}
use Prim.Native.Nat.{ℕ, ◌-◌}
use native.Mathlib.Omega.{arith}
use lib.ListN.{length, take, drop, take-append-drop}
use Rattle.std.proofs.lemmas.List.{nil_from_length, take_rest}
use Rattle.ends.specs.declared.watch.Watch.{Watch}
use Rattle.ends.specs.Watch.{watched}
use Rattle.ends.specs.Ends.{Put, Taken, Got}
use Rattle.ends.proofs.WatchLaws.{watched-append}

-- ---- some bytes taken, then more

pub taken_none : (w : Watch) (well : Bool) → Taken [] w w well
unfolding watched
taken_none w well = record { first = []; rest = []; bytes-are = refl; watch-is = refl; all_first = λ e. refl }

pub taken_more : {xs ys : List ℕ} {w w₁ w₂ : Watch} {well₁ well : Bool} → Taken xs w w₁ well₁ → well₁ ≡ true → Taken ys w₁ w₂ well
    → Taken (xs ++ ys) w w₂ well
taken_more {xs} {ys} {w} {w₁} {w₂} a e b =
    let all : xs ≡ a.first = a.bytes-are ∙ ap (λ (l : List ℕ). a.first ++ l) (a.all_first e) ∙ append-nil a.first in
    record {
      first = a.first ++ b.first;
      rest = b.rest;
      bytes-are = ap₂ (λ (l m : List ℕ). l ++ m) all b.bytes-are ∙ sym (append_assoc a.first b.first b.rest);
      watch-is = b.watch-is ∙ ap (λ (v : Watch). watched v b.first) a.watch-is ∙ sym (watched-append w a.first b.first);
      all_first = b.all_first;
    }

-- it may be said to have failed
pub taken-less : {xs : List ℕ} {w w₁ : Watch} {well well' : Bool} → (well' ≡ true → well ≡ true) → Taken xs w w₁ well → Taken xs w w₁ well'
taken-less h a =
    record { first = a.first; rest = a.rest; bytes-are = a.bytes-are; watch-is = a.watch-is; all_first = λ e. a.all_first (h e) }

-- ---- the head of the loop that writes

-- the system has taken the bytes before the rest
pub record Putting (bytes rest : List ℕ) (w₀ w : Watch) : Type 0 where
  pub first : List ℕ
  pub bytes-are : bytes ≡ first ++ rest
  pub watch-is : w ≡ watched w₀ first

pub putting-none : (bytes : List ℕ) (w : Watch) → Putting bytes bytes w w
unfolding watched
putting-none bytes w = record { first = []; bytes-are = refl; watch-is = refl }

module _ {bytes rest : List ℕ} {w₀ w : Watch} (g : Putting bytes rest w₀ w) where
  pub putting-more : (n : ℕ) (w' : Watch) → Put rest w n w' → Putting bytes (drop n rest) w₀ w'
  putting-more n w' p =
      record {
        first = g.first ++ take n rest;
        bytes-are =
            g.bytes-are ∙ ap (λ (l : List ℕ). g.first ++ l) (sym (take-append-drop n rest))
            ∙ sym (append_assoc g.first (take n rest) (drop n rest));
        watch-is =
            p.watch-is ∙ ap (λ (v : Watch). watched v (take n rest)) g.watch-is ∙ sym (watched-append w₀ g.first (take n rest));
      }

  pub putting-part : (n : ℕ) (w' : Watch) → Put rest w n w' → Putting bytes (take (length rest - n) (drop n rest)) w₀ w'
  putting-part n w' p = rw (take_rest rest n) (putting-more n w' p)

  pub putting-all : length rest ≡ 0 → Taken bytes w₀ w true
  putting-all e =
      record { first = g.first; rest = rest; bytes-are = g.bytes-are; watch-is = g.watch-is; all_first = λ t. nil_from_length rest e }

  pub putting-failed : Taken bytes w₀ w false
  putting-failed =
      record { first = g.first; rest = rest; bytes-are = g.bytes-are; watch-is = g.watch-is; all_first = λ t. absurd (true≢false (sym t)) }

-- ---- a read that failed

-- it gave no byte
pub got_none : (input : List ℕ) {w w' : Watch} → w' ≡ w → Got input w 0 w'
unfolding watched
got_none input e = record { within = omega arith; counted = refl; watch-is = e }
