-- Number 2 without its sentence on sessions: no number table is damaged.
use Rattle.std.specs.Prelude.{Bool, ◌&&◌, List, ℕ}
use Rattle.tables.specs.Damage.{clock_fits, records_fit, changes_fit, slots_fit, heads_fit, vectors_fit}

unfoldable pub numbers_fit : List ℕ → List ℕ → List ℕ → List ℕ → List ℕ → List ℕ → Bool
numbers_fit clock slots words heads log changes =
    clock_fits clock && records_fit clock log && changes_fit clock log changes && slots_fit clock slots && heads_fit clock slots heads
    && vectors_fit clock log slots words
