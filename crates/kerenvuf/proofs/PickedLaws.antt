-- The words that a query picked: the place that a number names, and what is copied.
use mathlib.Core.Path.{◌≡◌, sym, ap, ap₂, ◌∙◌}
use mathlib.Core.Bool.{Bool, cond, ◌&&◌, and-false}
use mathlib.Core.Option.{Option, none, some}
use mathlib.Core.List.{List, ◌++◌}
use Prim.Native.Nat.{ℕ, ◌-◌, ◌≤◌, ◌<◌}
use borrow.Author.Tests.{le-leb, lt-leb, eq-eqb, ne_eqb}
use lib.Dec.{eqb, leb}
use lib.ListN.{length, take, drop}
use lib.Seq.{length-take-le}
use Rattle.bits.specs.Tab.{over}
use Rattle.tables.proofs.Tests.{and_both}
use Rattle.outcomes.specs.Query.{picked_from}
use Rattle.kerenvuf.specs.Picked.{place_named, Copied, copied, copied_to, picked_to}

-- the place that a number names
pub named-scratch : (n : ℕ) → n ≡ 0 → none ≡ place_named n
unfolding place_named
named-scratch n e = sym (ap (λ (b : Bool). cond b none (some (n - 1))) (eq-eqb n 0 e))

pub named-slot : (n : ℕ) → (n ≡ 0 → ⊥) → some (n - 1) ≡ place_named n
unfolding place_named
named-slot n d = sym (ap (λ (b : Bool). cond b none (some (n - 1))) (ne_eqb n 0 d))

-- what is copied
module _ (part out : List ℕ) where
  abbrev chosen : Bool → Copied
  chosen b = cond b (copied (over part out) 32) (copied out 0)

  pub no_part : (length part ≡ 32 → ⊥) → copied out 0 ≡ copied_to part out
  unfolding copied_to
  no_part d = sym (ap chosen (ap (λ (b : Bool). b && leb 32 (length out)) (ne_eqb (length part) 32 d)))

  pub no_room : length out < 32 → copied out 0 ≡ copied_to part out
  unfolding copied_to
  no_room l = sym (ap chosen (ap (λ (b : Bool). eqb (length part) 32 && b) (lt-leb 32 (length out) l) ∙ and-false (eqb (length part) 32)))

  module _ (e : length part ≡ 32) (l : 32 ≤ length out) where
    pub same-room : length part ≡ length (take 32 out)
    same-room = e ∙ sym (length-take-le 32 out l)

    pub copied-over : (d : List ℕ) → d ≡ part → copied (d ++ drop 32 out) 32 ≡ copied_to part out
    unfolding copied_to
    copied-over d q =
        ap₂ (λ (x : List ℕ) (n : ℕ). copied (x ++ drop n out) 32) q (sym e)
        ∙ sym (ap chosen (and_both (eqb (length part) 32) (leb 32 (length out)) (eq-eqb (length part) 32 e) (le-leb 32 (length out) l)))

-- the part that the picker returned, at the place that the number names
pub picked-to : (ws scratch out part : List ℕ) (place : ℕ) (p : Option ℕ) (c : Copied)
    → p ≡ place_named place → part ≡ picked_from ws scratch p → c ≡ copied_to part out → c ≡ picked_to ws scratch place out
unfolding picked_to
picked-to ws scratch out part place p c e q h = h ∙ ap (λ (x : List ℕ). copied_to x out) (q ∙ ap (picked_from ws scratch) e)
