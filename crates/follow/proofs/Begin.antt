-- Begin and abort follow the rules.
use mathlib.Core.Path.{◌≡◌, refl, sym, ap, ap₂, ◌∙◌}
use mathlib.Core.List.{[], ◌∷◌}
use mathlib.Core.Logic.{inr, ⊎_elim}
use Prim.Native.Nat.{ℕ, ◌<◌}
use native.Mathlib.Omega.{arith}
use borrow.Author.Tests.{eq-eqb, ne_eqb}
use lib.ListN.{length-replicate}
use Rattle.bits.proofs.Cases.{eq-cases}
use Rattle.rules.specs.State.{opened}
use Rattle.rules.specs.Log.{stamp_of}
use Rattle.rules.specs.Calls.{begin, ok, abort}
use Rattle.rules.specs.Refusals.{tests}
use Rattle.rules.specs.Step.{seated, effect}
use Rattle.rules.specs.Step as rules
use Rattle.tables.specs.declared.session.Session.{Session}
use Rattle.tables.specs.Cells.{Tables, values_in, first_in, stamp_in, rows_in}
use Rattle.tables.specs.Clock.{clock_in}
use Rattle.tables.specs.Sessions.{begun, freed}
use Rattle.tables.specs.Meaning.{session_of, meaning}
use Rattle.tables.proofs.Facts.{last-rows}
use Rattle.tables.proofs.Sessions.{OpenFacts}
use Rattle.tables.proofs.Means.{stamp-means, rows-means, open-means, free-means, length-entries}
use Rattle.tables.proofs.Stores.{begun-means, freed-means}
use Rattle.outcomes.specs.Said.{numbers}
use Rattle.outcomes.specs.Outcome.{outcome}
use Rattle.outcomes.specs.Calls.{own, reseated, beginning, begin_of, abort_of}
use Rattle.outcomes.proofs.Entered.{seat-means}
use Rattle.follow.specs.Good.{Good, Wide}
use Rattle.follow.specs.Follows.{Follows}
use Rattle.follow.proofs.Good.{good-parts, good-seated, good-freed, Meets, meets-by, follows, place-low, seated-means, open-seat}

-- the session that begin opens
abbrev new : Tables → Session
new t = begun (clock_in t.clock).stamp (clock_in t.clock).rows

new-wide : (t : Tables) → Wide (new t)
unfolding begun
new-wide t = record { at_wide = length-replicate {A = ℕ} 32 0; to-wide = length-replicate {A = ℕ} 32 0 }

new-fits : (t : Tables) → Good t → OpenFacts (values_in t.clock) (first_in t.clock) (stamp_in t.clock) t.log (new t)
unfolding begun clock_in
new-fits t g = record {
  live-one = refl;
  start-old = omega arith;
  rows_then = sym (last-rows t.clock t.log (good-parts t g).records-fit);
  count_low = omega arith;
  entry-cases = λ i l. absurd (omega arith);
  listed-once = λ i j l. absurd (omega arith);
}

new-means : (t : Tables) → session_of (new t) ≡ opened (stamp_of (meaning t).log) (meaning t).rows []
unfolding clock_in
new-means t =
    begun-means (clock_in t.clock).stamp (clock_in t.clock).rows
    ∙ ap₂ (λ (s r : ℕ). opened s r []) (sym (stamp-means t)) (sym (rows-means t))

module _ (t : Tables) (g : Good t) (n : ℕ) where
  abbrev x : Session
  x = own t n

  -- an open session answers its start
  again : n < 16 → x.live ≡ 1 → Meets t (begin n) (beginning t n x)
  unfolding effect beginning
  again l v =
      meets-by t (begin n) (beginning t n x) (outcome t [] (numbers (x.start.0 ∷ x.rows.0 ∷ []))) (meaning t)
      (ok (x.start.0 ∷ x.rows.0 ∷ []))
      (rw (eq-eqb x.live 1 v)) (ap (rules.beginning (meaning t) n) (seat-means t n ∙ open-means x v)) refl refl g

  -- a free one is opened
  anew : n < 16 → (x.live ≡ 1 → ⊥) → Meets t (begin n) (beginning t n x)
  unfolding effect beginning
  anew l v =
      meets-by t (begin n) (beginning t n x) (outcome (reseated t n (new t)) [] (numbers (stamp_in t.clock ∷ rows_in t.clock ∷ [])))
      (seated (meaning t) n (opened (stamp_of (meaning t).log) (meaning t).rows [])) (ok (stamp_of (meaning t).log ∷ (meaning t).rows ∷ []))
      (rw (ne_eqb x.live 1 v)) (ap (rules.beginning (meaning t) n) (seat-means t n ∙ free-means x v))
      (seated-means t n l g (new t) ∙ ap (seated (meaning t) n) (new-means t)) (rw (stamp-means t, rows-means t))
      (good-seated t n (new t) g (new-wide t) (inr (new-fits t g)))

  pub begin-follows : Follows t (begin n) (begin_of t n)
  unfolding begin_of tests
  begin-follows =
      follows t g (begin n) [] (beginning t n x)
      (λ a. let l = place-low n a.fail.0 in ⊎_elim (again l) (anew l) (eq-cases x.live 1))

pub abort-follows : (t : Tables) → Good t → (n : ℕ) → Follows t (abort n) (abort_of t n)
unfolding abort_of tests effect
abort-follows t g n =
    follows t g (abort n) [] (outcome (reseated t n freed) [] (numbers ((own t n).count ∷ [])))
    (λ a. let o = open-seat t n g a.fail.0 a.fail.1.0 in
    record {
      same-state = seated-means t n o.place g freed ∙ ap (seated (meaning t) n) freed-means;
      same_answer = rw (o.means, length-entries (own t n));
      stays-good = good-freed t n g;
    })
