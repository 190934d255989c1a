-- The lent tables and buffers keep their lengths, turn after turn of a loop.
use mathlib.Core.Path.{◌≡◌, refl, ◌∙◌}
use mathlib.Core.List.{List}
use Prim.Native.Nat.{ℕ, ◌≤◌}
use native.Mathlib.Omega.{arith}
use lib.ListN.{length}

-- the tables and buffers have the lengths that they had, and there is room for a column
pub record Kept
    (clock₀ slots₀ words₀ heads₀ log₀ changes₀ scratch₀ column₀ pending₀ out₀
    clock slots words heads log changes scratch column pending out : List ℕ) : Type 0 where
  pub same :
      (length clock ≡ length clock₀) × (length slots ≡ length slots₀) × (length words ≡ length words₀) ×
      (length heads ≡ length heads₀) × (length log ≡ length log₀) × (length changes ≡ length changes₀) ×
      (length scratch ≡ length scratch₀) × (length column ≡ length column₀) × (length pending ≡ length pending₀) ×
      (length out ≡ length out₀)
  pub wide : 4096 ≤ length column

pub kept-none : {clock slots words heads log changes scratch column pending out : List ℕ} → 4096 ≤ length column
    → Kept clock slots words heads log changes scratch column pending out
    clock slots words heads log changes scratch column pending out
kept-none w = record { same = (refl, refl, refl, refl, refl, refl, refl, refl, refl, refl); wide = w }

-- a call keeps the lengths of the first eight
pub kept_more : {clock₀ slots₀ words₀ heads₀ log₀ changes₀ scratch₀ column₀ pending₀ out₀
    clock slots words heads log changes scratch column pending out
    clock' slots' words' heads' log' changes' scratch' column' pending' out' : List ℕ}
    → Kept clock₀ slots₀ words₀ heads₀ log₀ changes₀ scratch₀ column₀ pending₀ out₀
    clock slots words heads log changes scratch column pending out
    → (length clock' ≡ length clock) × (length slots' ≡ length slots) × (length words' ≡ length words) ×
    (length heads' ≡ length heads) × (length log' ≡ length log) × (length changes' ≡ length changes) ×
    (length scratch' ≡ length scratch) × (length column' ≡ length column)
    → length pending' ≡ length pending₀ → length out' ≡ length out₀
    → Kept clock₀ slots₀ words₀ heads₀ log₀ changes₀ scratch₀ column₀ pending₀ out₀
    clock' slots' words' heads' log' changes' scratch' column' pending' out'
kept_more g k p o =
    record {
      same = (
        k.0 ∙ g.same.0,
        k.1 ∙ g.same.1,
        k.2 ∙ g.same.2,
        k.3 ∙ g.same.3,
        k.4 ∙ g.same.4,
        k.5 ∙ g.same.5,
        k.6 ∙ g.same.6,
        k.7 ∙ g.same.7,
        p,
        o,
      );
      wide = omega (arith, g.wide, k.7);
    }
