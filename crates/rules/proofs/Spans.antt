-- K1: a span is the union of its values' queries, and of one value it is that value's query.
use mathlib.Core.Path.{◌≡◌}
use mathlib.Core.Bool.{Bool}
use mathlib.Core.List.{List, Memᴰ}
use mathlib.Core.Logic.{◌↔◌}
use Prim.Native.Nat.{ℕ, suc, ◌≤◌}
use native.Mathlib.Omega.{arith}
use Rattle.bits.proofs.AnyLaws.{any_at, any_of, any-one}
use Rattle.bits.proofs.RowLaws.{rows-mem, mem-rows, rows_ext}
use Rattle.rules.specs.Limits.{max_rows}
use Rattle.rules.specs.State.{Log, Chain, chain}
use Rattle.rules.specs.Versions.{queried, queried_rows, spanned, spanned_rows}

module _ (log : Log) (cs : List Chain) (s : ℕ) where
  -- row r is in the query of v
  abbrev has : ℕ → ℕ → Bool
  has r v = queried log (chain cs v) s v r

  -- a row is listed exactly if the query of one of the values a to b lists it
  pub span-union : (a b r : ℕ) → Memᴰ r (spanned_rows log cs s a b)
      ↔ ((v : ℕ) × (a ≤ v) × (v ≤ b) × Memᴰ r (queried_rows log (chain cs v) s v))
  unfolding spanned
  span-union a b r = (
    λ m. let l = rows-mem (spanned log cs s a b) max_rows r m in
        let f = any_at (has r) a (suc b) l.1 in
        (f.0, f.1, omega (arith, f.2), mem-rows (queried log (chain cs f.0) s f.0) max_rows r l.0 f.3),
    λ h. let l = rows-mem (queried log (chain cs h.0) s h.0) max_rows r h.3 in
        mem-rows (spanned log cs s a b) max_rows r l.0 (any_of (has r) a (suc b) h.0 h.1 (omega (arith, h.2)) l.1),
  )

  -- a span of one value lists what its query lists
  pub span-one : (v : ℕ) → spanned_rows log cs s v v ≡ queried_rows log (chain cs v) s v
  unfolding spanned
  span-one v = rows_ext (spanned log cs s v v) (queried log (chain cs v) s v) max_rows (λ r l. any-one (has r) v)
