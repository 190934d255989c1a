-- Whether a tidy is stale, a change at a time; and how many rows it can move.
use mathlib.Core.Path.{◌≡◌, sym, ap, ◌∙◌}
use mathlib.Core.Bool.{Bool, true, false, ◌||◌, or-true}
use mathlib.Core.List.{List}
use Prim.Native.Nat.{ℕ, ◌+◌, ◌*◌, ◌≤◌, ◌<◌}
use native.Mathlib.Numerals.{add-one}
use lib.ListN.{length}
use Rattle.bits.specs.Bit.{bit}
use Rattle.bits.specs.Rows.{count_of}
use Rattle.bits.proofs.RowLaws.{count-le}
use Rattle.bits.specs.Words.{bit_at}
use Rattle.rules.specs.Log.{some_change}
use Rattle.tables.specs.Cells.{change_row, change_set}
use Rattle.tables.specs.Meaning.{change_at}
use Rattle.tables.proofs.Stretch.{stretch-none, stretch-front}
use Rattle.tidying.specs.Tidy.{hinders, touched_in}

-- ---- the changes, one after another: what is so far is said of those left

module _ (changes moved : List ℕ) (v to from p : ℕ) (i : touched_in changes from to moved v ≡ touched_in changes p to moved v) where
  pub touched_none : to ≤ p → false ≡ touched_in changes from to moved v
  unfolding touched_in
  touched_none h = sym (i ∙ ap (some_change (hinders moved v)) (stretch-none (change_at changes) p to h))

  module _ (h : p < to) (row : ℕ) (b : Bool) (r : row ≡ change_row changes p) (e : b ≡ bit_at moved row) where
    -- the first of them
    front : touched_in changes from to moved v ≡ b || bit (change_set changes p) v || touched_in changes (p + 1) to moved v
    unfolding touched_in
    front = i ∙ rw (stretch-front (change_at changes) p to h, add-one, e, r)

    pub touched-row : b ≡ true → true ≡ touched_in changes from to moved v
    touched-row z = sym (front ∙ rw z)

    module _ (set : ℕ) (d : Bool) (s : set ≡ change_set changes p) (g : d ≡ bit set v) where
      pub touched-set : d ≡ true → true ≡ touched_in changes from to moved v
      touched-set z = sym (front ∙ rw (← s, ← g, z, or-true))

      pub touched-past : b ≡ false → d ≡ false → touched_in changes from to moved v ≡ touched_in changes (p + 1) to moved v
      touched-past y z = front ∙ rw (← s, ← g, y, z)

-- ---- the tests

-- how many rows move is small
pub count_few : (ws : List ℕ) → count_of ws ≤ length ws * 64
unfolding count_of
count_few ws = count-le (bit_at ws) (length ws * 64)
