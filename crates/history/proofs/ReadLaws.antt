-- A read step by step; by the last change of the row alone it is the same as by a query of each value.
use mathlib.Core.Path.{◌≡◌, refl, sym, ap, ap₂, ◌∙◌}
use mathlib.Core.Bool.{Bool, true, false, not, ◌&&◌, cond, beq}
use mathlib.Core.Option.{Option, none, some}
use Rattle.std.specs.Prelude as kit
use Rattle.std.specs.Prelude.{Some, None, MatchOption}
use mathlib.Core.List.{List}
use mathlib.Core.Logic.{◌⊎◌, inl, inr}
use Prim.Native.Nat.{ℕ, ◌+◌, ◌≤◌, ◌<◌}
use native.Mathlib.Omega.{arith}
use borrow.Author.Tests.{le-leb, lt-leb, lt-ltb, le-ltb}
use lib.Dec.{leb, ltb}
use Rattle.bits.proofs.Cases.{lt-cases}
use Rattle.bits.specs.Bit.{xorb, bit}
use Rattle.bits.proofs.BitLaws.{bit-of-zero}
use Rattle.bits.proofs.RowLaws.{smallest-zero, smallest-past, smallest-here, smallest-ext}
use Rattle.bits.specs.Words.{bit_at}
use Rattle.rules.specs.Log.{or_empty}
use Rattle.tables.specs.Cells.{slot_words, end_at}
use Rattle.history.specs.declared.chain.Base.{Base}
use Rattle.history.specs.declared.changes.Last.{Last}
use Rattle.history.specs.Version.{base_seen}
use Rattle.history.specs.Last.{place_of, set_of, last_set, last_of}
use Rattle.history.specs.Flips.{flipped_in}
use Rattle.history.specs.Query.{queried_since, queried_at}
use Rattle.history.specs.Read.{read_cells, last_flips, has_after, read_after}
use Rattle.history.proofs.LastLaws.{last-since}

-- ---- one value

-- what `flipped_since` knows at its ends
pub since-is : (last : kit.Option Last) (from v : ℕ) (r : Bool) → MatchOption last (r ≡ false) (λ l. r ≡ leb from l.at && bit l.set v)
    → r ≡ last_flips last from v
unfolding last_flips
since-is None from v r e = e ∙ sym (rw (le-ltb from 0 (omega arith)))
since-is (Some l) from v r e = e ∙ ap (λ (b : Bool). b && bit l.set v) (below from l.at (lt-cases l.at from))
  where
    below : (m n : ℕ) → (n < m) ⊎ (m ≤ n) → leb m n ≡ ltb m (n + 1)
    below m n (inl h) = rw (lt-leb m n h, le-ltb m (n + 1) (omega arith))
    below m n (inr h) = rw (le-leb m n h, lt-ltb m (n + 1) (omega arith))

differs : (a b : Bool) → not (beq a b) ≡ xorb a b
differs true true = refl
differs true false = refl
differs false true = refl
differs false false = refl

-- what `row_has` knows at its end
pub has-is : (slots words heads log : List ℕ) (s row v : ℕ) (last : kit.Option Last) (base : Base) (on off : Bool)
    → base ≡ base_seen slots heads log s v
    → on ≡ bit_at (slot_words words base.slot) row → off ≡ last_flips last base.from v
    → not (beq on off) ≡ has_after (base_seen slots heads log s v) words row last v
unfolding has_after
has-is slots words heads log s row v last base on off b p q =
    differs on off ∙ ap₂ xorb p q ∙ ap (λ (x : Base). xorb (bit_at (slot_words words x.slot) row) (last_flips last x.from v)) b

-- ---- the loop over the values: none yet, this one, the next

module _ (slots words heads log : List ℕ) (values s row : ℕ) (last : kit.Option Last) where
  pub read-start : read_after slots words heads log 0 s row last ≡ none
  unfolding read_after
  read-start = smallest-zero (λ w. has_after (base_seen slots heads log s w) words row last w)

  module _ (v : ℕ) (e : read_after slots words heads log v s row last ≡ none) where
    pub read_here : (t : Bool) → t ≡ has_after (base_seen slots heads log s v) words row last v → t ≡ true → v < values
        → some v ≡ read_after slots words heads log values s row last
    unfolding read_after
    read_here t h q l = sym (smallest-here (λ w. has_after (base_seen slots heads log s w) words row last w) values v e (sym h ∙ q) l)

    pub read_past : (t : Bool) → t ≡ has_after (base_seen slots heads log s v) words row last v → t ≡ false
        → read_after slots words heads log (v + 1) s row last ≡ none
    unfolding read_after
    read_past t h q = smallest-past (λ w. has_after (base_seen slots heads log s w) words row last w) v e (sym h ∙ q)

-- ---- the last change of the row decides as the changes after each version do

last-flips : (changes : List ℕ) (from to v row : ℕ) → last_flips (last_of changes to row) from v ≡ flipped_in changes from to v row
unfolding last_flips flipped_in last_set
last-flips changes from to v row =
    go (ltb from (place_of (last_of changes to row))) ∙ ap (λ (o : Option ℕ). bit (or_empty o) v) (sym (last-since changes row from to))
  where
    go : (t : Bool) → t && bit (set_of (last_of changes to row)) v ≡ bit (or_empty (cond t (some (set_of (last_of changes to row))) none)) v
    go true = refl
    go false = sym (bit-of-zero v)

pub after-cells : (slots words heads log changes : List ℕ) (values s row : ℕ)
    → read_after slots words heads log values s row (last_of changes (end_at log s) row)
    ≡ read_cells slots words heads log changes values s row
unfolding read_after read_cells has_after queried_at queried_since
after-cells slots words heads log changes values s row =
    smallest-ext (λ w. has_after (base_seen slots heads log s w) words row (last_of changes (end_at log s) row) w)
    (λ w. queried_at slots words heads log changes s w row) values
    (λ v l. ap (xorb (bit_at (slot_words words (base_seen slots heads log s v).slot) row))
    (last-flips changes (base_seen slots heads log s v).from (end_at log s) v row))

-- what `read_at` knows at its end
pub read_is : (slots words heads log changes : List ℕ) (values s row to : ℕ) (last : kit.Option Last) (o : Option ℕ) → to ≡ end_at log s
    → last ≡ last_of changes to row
    → o ≡ read_after slots words heads log values s row last → o ≡ read_cells slots words heads log changes values s row
read_is slots words heads log changes values s row to last o e q p =
    p ∙ ap (read_after slots words heads log values s row) (q ∙ ap (λ (n : ℕ). last_of changes n row) e)
    ∙ after-cells slots words heads log changes values s row
