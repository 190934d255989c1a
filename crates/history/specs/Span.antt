-- A span of values on the cells: the rows that the query of one of them shows.
use Rattle.std.specs.Prelude.{Bool, List, ℕ, suc, ◌≤◌, length}
use Rattle.bits.specs.Any.{any_from}
use Rattle.tables.specs.Cells.{end_at}
use Rattle.history.specs.Version.{Based}
use Rattle.history.specs.Flips.{RowsLow}
use Rattle.history.specs.Query.{queried_at}

-- the rows that the query of one of the values a to b at s shows
unfoldable pub spanned_at : List ℕ → List ℕ → List ℕ → List ℕ → List ℕ → ℕ → ℕ → ℕ → ℕ → Bool
spanned_at slots words heads log changes s a b r = any_from (λ v. queried_at slots words heads log changes s v r) a (suc b)

-- what a span up to the value b needs
pub record SpanReady (slots words heads log changes : List ℕ) (s b : ℕ) : Type 0 where
  pub each-based : (v : ℕ) → v ≤ b → Based slots heads log s v
  pub words-room : 3072 ≤ length words
  pub stamp-low : s ≤ 512
  pub rows : RowsLow changes 0 (end_at log s)
