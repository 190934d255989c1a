-- A plain list: rows below the row count with targets below C, and no two rows that end in the same six bits. It fits.
use mathlib.Core.Path.{◌≡◌, sym, ap, ◌∙◌}
use mathlib.Core.Bool.{Bool, true, false, not, ◌&&◌, ◌||◌, true≢false}
use mathlib.Core.List.{List}
use mathlib.Core.Logic.{◌⊎◌, inl, inr}
use Prim.Native.Nat.{ℕ, ◌+◌, ◌%◌, ◌≤◌, ◌<◌}
use native.Mathlib.Omega.{arith}
use borrow.Author.Tests.{eq-eqb, ne_eqb, not-true}
use lib.Dec.{eqb, ltb}
use lib.ListN.{get_or}
use Rattle.bits.specs.All.{all_below}
use Rattle.bits.proofs.AllLaws.{all_of, all_none, all_more}
use Rattle.bits.specs.Bit.{bit, set_bit}
use Rattle.bits.proofs.BitLaws.{bit-set}
use Rattle.bits.proofs.Cases.{lt-cases}
use Rattle.tables.specs.Damage.{entry_fits}
use Rattle.tables.proofs.Tests.{both, and_both, or_left, or_right}
use Rattle.session_damage.specs.Parts.{listed, once_in, entries_fit}
use Rattle.session_damage.proofs.EntryLaws.{entries-made}

-- the first i entries: their last bits were seen, and they fit where all was well
pub record Plain (at to : List ℕ) (rows values i seen : ℕ) (ok : Bool) : Type 0 where
  pub all_seen : (j : ℕ) → j < i → bit seen (get_or at j 0 % 64) ≡ true
  pub all_fit : ok ≡ true → (all_below (listed values rows at to) i ≡ true) × (all_below (once_in at) i ≡ true)

module _ (at to : List ℕ) (rows values : ℕ) where
  pub plain-none : Plain at to rows values 0 0 true
  plain-none = record {
    all_seen = λ j h. absurd (omega arith);
    all_fit = λ e. (all_none (listed values rows at to), all_none (once_in at));
  }

  listed_plain : (i : ℕ) → ltb (get_or at i 0) rows ≡ true → ltb (get_or to i 0) values ≡ true → listed values rows at to i ≡ true
  unfolding listed entry_fits
  listed_plain i e f = or_left _ _ (and_both _ _ e (or_left _ _ f))

  once-plain : (i seen : ℕ) → ((j : ℕ) → j < i → bit seen (get_or at j 0 % 64) ≡ true) → bit seen (get_or at i 0 % 64) ≡ false
      → once_in at i ≡ true
  unfolding once_in
  once-plain i seen s e =
      or_right (eqb (get_or at i 0) 65535) _
      (all_of (λ j. not (eqb (get_or at j 0) (get_or at i 0))) i
      (λ j l. ap not (ne_eqb (get_or at j 0) (get_or at i 0) (λ q. true≢false (sym (s j l) ∙ ap (λ (x : ℕ). bit seen (x % 64)) q ∙ e)))))

  module _ (i seen row target next : ℕ) (ok b : Bool) (p : Plain at to rows values i seen ok) (r : row ≡ get_or at i 0)
      (t : target ≡ get_or to i 0)
      (q : b ≡ bit seen (row % 64)) (m : next ≡ set_bit seen (row % 64)) where
    next-seen : (j : ℕ) → j < i + 1 → bit next (get_or at j 0 % 64) ≡ true
    next-seen j h = ap (λ (x : ℕ). bit x (get_or at j 0 % 64)) m ∙ bit-set seen (row % 64) (get_or at j 0 % 64) ∙ go (lt-cases j i)
      where
        go : (j < i) ⊎ (i ≤ j) → eqb (row % 64) (get_or at j 0 % 64) || bit seen (get_or at j 0 % 64) ≡ true
        go (inl l) = or_right (eqb (row % 64) (get_or at j 0 % 64)) _ (p.all_seen j l)
        go (inr l) =
            let z : i ≡ j = omega arith in
            or_left _ (bit seen (get_or at j 0 % 64)) (eq-eqb (row % 64) (get_or at j 0 % 64) (ap (λ (x : ℕ). x % 64) (r
            ∙ ap (λ (x : ℕ). get_or at x 0) z)))

    next-fit : ok && (ltb row rows && ltb target values && not b) ≡ true
        → (all_below (listed values rows at to) (i + 1) ≡ true) × (all_below (once_in at) (i + 1) ≡ true)
    next-fit e =
        let x : _ = both ok (ltb row rows && ltb target values && not b) e in
        let y : _ = both (ltb row rows && ltb target values) (not b) x.1 in
        let z : _ = both (ltb row rows) (ltb target values) y.0 in
        let f : _ = p.all_fit x.0 in (
          all_more (listed values rows at to) i
              ∙ and_both _ _ f.0 (listed_plain i (ap (λ (w : ℕ). ltb w rows) (sym r) ∙ z.0) (ap (λ (w : ℕ). ltb w values) (sym t)
              ∙ z.1)),
          all_more (once_in at) i
              ∙ and_both _ _ f.1 (once-plain i seen p.all_seen (ap (λ (w : ℕ). bit seen (w % 64)) (sym r) ∙ sym q
              ∙ not-true b y.1)),
        )

    pub plain_more : Plain at to rows values (i + 1) next (ok && (ltb row rows && ltb target values && not b))
    plain_more = record { all_seen = next-seen; all_fit = next-fit }

  -- a plain list fits
  pub plain-list : (count : ℕ) (b : Bool) → count ≤ 32 → rows ≤ 2048 → values ≤ 32
      → (b ≡ true → (all_below (listed values rows at to) count ≡ true) × (all_below
      (once_in at) count ≡ true)) → b ≡ true → true ≡ entries_fit at to count rows values
  plain-list count b h l m f t =
      let p = (f t).0 in
      let q = (f t).1 in
      sym (entries-made at to count rows values (search))
