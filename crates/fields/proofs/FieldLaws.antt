-- Laws of a field that was read after a place, or was not: `say` is how it is read, r what was read.
use mathlib.Core.Path.{◌≡◌, refl, sym, ap, ◌∙◌}
use mathlib.Core.List.{List, [], ◌∷◌}
use mathlib.Core.Logic.{◌⊎◌, inl, inr}
use mathlib.Core.Option.{Option, none, some}
use Prim.Native.Nat.{ℕ, ◌+◌, ◌<◌, ◌≤◌}
use native.Mathlib.Omega.{arith}
use lib.ListN.{length}
use Rattle.bits.proofs.Cases.{lt-cases}
use Rattle.std.specs.Prelude.{Some, None}
use Rattle.fields.specs.declared.Field.{Field}
use Rattle.fields.specs.Split.{space}
use Rattle.fields.specs.Places.{part_at, end_at, after, found, tag, first_by, field_by}
use Rattle.fields.proofs.SplitLaws.{after-end, after-step, end_fits}

-- a field that was read: its bytes, and where the next one is
pub record Took (say : List ℕ → Option ℕ) (line : List ℕ) (at : ℕ) (r : Field) : Type 0 where
  pub f : List ℕ
  pub is : say f ≡ some r.value
  pub fields : after space line at ≡ f ∷ after space line r.next
  pub place : r.next ≡ at + 1 + length f
  pub within : r.next ≤ length line

-- one that was not
pub data Stuck (say : List ℕ → Option ℕ) (line : List ℕ) (at : ℕ) : Type 0 where
  nothing_left : after space line at ≡ [] → Stuck say line at
  not-read : (f : List ℕ) (fs : List (List ℕ)) → after space line at ≡ f ∷ fs → say f ≡ none → Stuck say line at

tag_is : (o : Option ℕ) (p : ℕ) (r : Field) → Some r ≡ tag o p → (o ≡ some r.value) × (p ≡ r.next)
unfolding tag
tag_is none p r e = let z = e in cc
tag_is (some x) p r e = let z : r ≡ found x p = cc in (ap some (sym (ap (λ (q : Field). q.value) z)), sym (ap (λ (q : Field). q.next) z))

tag-bad : (o : Option ℕ) (p : ℕ) → None ≡ tag o p → o ≡ none
unfolding tag
tag-bad none p e = refl
tag-bad (some x) p e = let z = e in cc

module _ (say : List ℕ → Option ℕ) (line : List ℕ) (at : ℕ) where
  pub took : (r : Field) → Some r ≡ field_by say line at → Took say line at r
  unfolding field_by first_by end_at
  took r e = go (lt-cases at (length line))
    where
      go : (at < length line) ⊎ (length line ≤ at) → Took say line at r
      go (inl l) =
          let f = part_at space line (at + 1) in
          let w = tag_is (say f) (at + 1 + length f) r (e ∙ rw (after-step space line at l)) in
          record {
            f = part_at space line (at + 1);
            is = w.0;
            fields = after-step space line at l ∙ rw w.1;
            place = sym w.1;
            within = omega (arith, end_fits space line (at + 1) (omega arith), w.1);
          }
      go (inr l) = let n : Some r ≡ None = e ∙ rw (after-end space line at l) in cc

  pub stuck : None ≡ field_by say line at → Stuck say line at
  unfolding field_by first_by
  stuck e = go (after space line at) refl e
    where
      go : (fs : List (List ℕ)) → after space line at ≡ fs → None ≡ first_by say fs at → Stuck say line at
      go [] q k = nothing_left q
      go (f ∷ fs) q k = not-read f fs q (tag-bad (say f) (at + 1 + length f) k)
