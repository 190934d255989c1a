-- A session's list: its entries looked at a step at a time.
use mathlib.Core.Path.{◌≡◌, sym, ap, ap₂, ◌∙◌}
use mathlib.Core.Bool.{Bool, true, false, not, ◌&&◌}
use mathlib.Core.List.{List}
use mathlib.Core.Logic.{⊎_elim}
use Prim.Native.Nat.{ℕ, ◌≤◌, ◌<◌}
use native.Mathlib.Omega.{arith}
use borrow.Author.Tests.{not-false}
use lib.Dec.{eqb}
use lib.ListN.{get_or}
use Rattle.bits.specs.All.{all_below}
use Rattle.bits.proofs.AllLaws.{all-at, all-and}
use Rattle.bits.specs.OrWords.{or_below}
use Rattle.bits.proofs.OrLaws.{or-all}
use Rattle.bits.proofs.Cases.{same_truth}
use Rattle.rules.specs.Limits.{max_entries}
use Rattle.tables.specs.declared.session.Session.{Session}
use Rattle.tables.specs.Damage.{is_entry_zero, all_zero}
use Rattle.tables.proofs.Sessions.{entry-facts}
use Rattle.session_damage.specs.Parts.{zero_at, listed, once_in, RowsLow, entries_fit}
use Rattle.tables.proofs.Tests.{told, made, not_so, found-false}
use Rattle.session_damage.proofs.OnceLaws.{once-few}

-- a list whose rows and targets, each gathered in one number, are 0
pub zero-gathered : (at to : List ℕ) (i j rows targets : ℕ) → rows ≡ or_below (λ k. get_or at k 0) i
    → targets ≡ or_below (λ k. get_or to k 0) j
    → i ≡ 32 → j ≡ 32
    → eqb rows 0 && eqb targets 0 ≡ all_below (zero_at at to) 32
unfolding zero_at
zero-gathered at to i j rows targets p q h l =
    ap₂ (λ (x y : ℕ). eqb x 0 && eqb y 0) (p ∙ ap (or_below (λ k. get_or at k 0)) h) (q ∙ ap (or_below (λ k. get_or to k 0)) l)
    ∙ ap₂ (λ (x y : Bool). x && y) (or-all (λ j. get_or at j 0) 32) (or-all (λ j. get_or to j 0) 32)
    ∙ sym (all-and (λ j. eqb (get_or at j 0) 0) (λ j. eqb (get_or to j 0) 0) 32)

-- a session that is all 0
pub zero-session : (x : Session) (b : Bool) → b ≡ all_below (zero_at x.at x.to) 32
    → eqb x.live 0 && eqb x.start.0 0 && eqb x.rows.0 0 && eqb x.count 0 && b ≡ all_zero x
unfolding all_zero is_entry_zero zero_at max_entries
zero-session x b e = ap (λ (t : Bool). eqb x.live 0 && eqb x.start.0 0 && eqb x.rows.0 0 && eqb x.count 0 && t) e

-- what a list that fits has
pub record EntriesFacts (at to : List ℕ) (count rows values : ℕ) : Type 0 where
  pub count_low : count ≤ 32
  pub rows-low : rows ≤ 2048
  pub values_low : values ≤ 32
  pub all_listed : all_below (listed values rows at to) count ≡ true
  pub all_once : all_below (once_in at) count ≡ true

module _ (at to : List ℕ) (count rows values : ℕ) where
  pub entries-facts : entries_fit at to count rows values ≡ true → EntriesFacts at to count rows values
  unfolding entries_fit
  entries-facts e = search told depth 8

  pub entries-made : EntriesFacts at to count rows values → entries_fit at to count rows values ≡ true
  unfolding entries_fit
  entries-made f = search made depth 8

  -- an entry that does not fit
  module _ (b : Bool) (q : b ≡ all_below (listed values rows at to) count) where
    pub bad-entry : not b ≡ true → false ≡ entries_fit at to count rows values
    bad-entry h =
        not_so (entries_fit at to count rows values)
        (λ z. found-false b (all_below (listed values rows at to) count) q h (entries-facts z).all_listed)

    -- rows below 2,048, as a vector of rows needs
    pub rows-in-vector : rows ≤ 2048 → not b ≡ false → RowsLow at count
    unfolding RowsLow listed
    rows-in-vector h l i m o =
        ⊎_elim (λ p. omega (arith, p.0)) (λ p. absurd (o p.0))
        (entry-facts values rows (get_or at i 0) (get_or to i 0) (all-at (listed values rows at to) count (sym q ∙ not-false b l) i m))

    module _ (h : count ≤ 32) (l : rows ≤ 2048) (m : values ≤ 32) (o : not b ≡ false) where
      -- a list of at most one entry
      pub short-list : count < 2 → true ≡ entries_fit at to count rows values
      short-list k =
          let p = sym q ∙ not-false b o in
          let u = once-few at count k in
          sym (entries-made (search))

      pub once-decides : (r : Bool) → r ≡ all_below (once_in at) count → r ≡ entries_fit at to count rows values
      once-decides r k =
          let p = sym q ∙ not-false b o in
          same_truth r (entries_fit at to count rows values)
          (λ z. let u = sym k ∙ z in entries-made (search))
          (λ z. k ∙ (entries-facts z).all_once)
