-- The examples marked P hold, by computation.
use mathlib.Core.Path.{◌≡◌, refl}
use mathlib.Core.List.{List, [], ◌∷◌}
use Prim.Native.Nat.{ℕ}
use Rattle.bits.specs.Bit.{bit, set_bit, flip_bit, clear_bit}
use Rattle.bits.specs.Words.{bit_at}
use Rattle.bits.specs.Any.{any_below, any_from}
use Rattle.bits.specs.Tab.{tab}
use Rattle.bits.specs.Rows.{rows_below, count_below, smallest_below}
use Rattle.rules.specs.Limits.{max_values, max_rows, max_slots, max_records, max_changes, max_sessions, max_entries, vector_words}
use Rattle.rules.specs.Log.{stamp_of, up_to, above, between, grown, all_changes, flip_set}
use Rattle.rules.specs.Versions.{version_at, flipped, queried, spanned, read_at}
use Rattle.rules.specs.Commit.{toggled, commit_changes}
use Rattle.rules.specs.Tidy.{moved, tidy_changes}
use Rattle.rules.specs.Refusals.{bad_column, tests}
use Rattle.rules.specs.Step.{created, effect, step, run}
use Rattle.rules.specs.Examples.{first_column, start, printed, printed₆, printed₈, printed₉, emptying, returning, replacing}
use Rattle.rules.specs.Examples.{overtaking, spanning, set_of, row_with, Marked, Caught}

-- the sets of the examples, as the numbers that the rules compute
sets : (set_of [] ≡ 0) × (set_of (1 ∷ []) ≡ 2) × (set_of (2 ∷ []) ≡ 4) × (set_of (1 ∷ 3 ∷ []) ≡ 10) × (set_of (2 ∷ 3 ∷ []) ≡ 12)
    × (set_of (1 ∷ 2 ∷ 3 ∷ []) ≡ 14)
unfolding set_of set_bit
sets = (refl, refl, refl, refl, refl, refl)

-- records in numbers are records in sets
module _ (l : List (List (ℕ × ℕ))) where
  records-1 : l ≡ ((0, 10) ∷ []) ∷ [] → l ≡ row_with 0 (1 ∷ 3 ∷ []) ∷ []
  records-1 e = rw sets.3 e

  records-2 : l ≡ ((0, 10) ∷ []) ∷ ((0, 2) ∷ []) ∷ [] → l ≡ row_with 0 (1 ∷ 3 ∷ []) ∷ row_with 0 (1 ∷ []) ∷ []
  records-2 e = rw (sets.3, sets.1) e

  records-3 : l ≡ ((0, 10) ∷ []) ∷ ((0, 2) ∷ []) ∷ ((0, 14) ∷ []) ∷ []
      → l ≡ row_with 0 (1 ∷ 3 ∷ []) ∷ row_with 0 (1 ∷ []) ∷ row_with 0 (1 ∷ 2 ∷ 3 ∷ []) ∷ []
  records-3 e = rw (sets.3, sets.1, sets.5) e

  records-4 : l ≡ ((0, 10) ∷ []) ∷ ((0, 2) ∷ []) ∷ ((0, 14) ∷ []) ∷ ((4, 4) ∷ []) ∷ []
      → l ≡ row_with 0 (1 ∷ 3 ∷ []) ∷ row_with 0 (1 ∷ []) ∷ row_with 0 (1 ∷ 2 ∷ 3 ∷ []) ∷ row_with 4 (2 ∷ []) ∷ []
  records-4 e = rw (sets.3, sets.1, sets.5, sets.2) e

  records-emptied : l ≡ ((0, 10) ∷ []) ∷ ((0, 2) ∷ []) ∷ ((0, 0) ∷ []) ∷ ((0, 12) ∷ []) ∷ []
      → l ≡ row_with 0 (1 ∷ 3 ∷ []) ∷ row_with 0 (1 ∷ []) ∷ row_with 0 [] ∷ row_with 0 (2 ∷ 3 ∷ []) ∷ []
  records-emptied e = rw (sets.3, sets.1, sets.0, sets.4) e

pub marked : Marked
unfolding first_column printed printed₆ printed₈ printed₉ created effect step run bad_column tests max_values max_rows max_slots max_records
    max_changes max_sessions max_entries vector_words stamp_of up_to above between grown all_changes flip_set version_at flipped queried read_at
    toggled commit_changes moved tidy_changes bit flip_bit clear_bit bit_at tab rows_below count_below smallest_below
marked =
    record {
      printed-answers = λ st. refl;
      p1 = λ st. records-1 _ refl;
      p2 = λ st. records-2 _ refl;
      p3 = λ st. refl;
      p4 = λ st. refl;
      p5 = λ st. refl;
      p6-start = λ st. refl;
      p6-record = λ st. records-3 _ refl;
      p7 = λ st. refl;
      p8-record = λ st. records-4 _ refl;
      p8 = λ st. refl;
      p9 = λ st. refl;
      p10 = λ words. refl;
    }

pub caught : Caught
unfolding first_column start emptying returning replacing overtaking spanning created effect step run bad_column tests max_values max_rows
    max_slots max_records max_changes max_sessions max_entries vector_words stamp_of up_to above between grown all_changes flip_set version_at
    flipped queried spanned read_at toggled commit_changes moved tidy_changes bit flip_bit clear_bit tab any_from any_below rows_below
    count_below smallest_below
caught = record {
  emptied = refl;
  emptied-records = records-emptied _ refl;
  returned = refl;
  replaced = refl;
  overtaken = refl;
  spanned-rows = refl;
  listed-once = refl;
}
