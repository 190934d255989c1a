-- A session as the code judges it, and what that says of sound tables.
use mathlib.Core.Path.{◌≡◌, sym, ap, ◌∙◌}
use mathlib.Core.Bool.{Bool, true, false, ◌&&◌, ◌||◌, and-false, or-false, true≢false}
use mathlib.Core.List.{List}
use mathlib.Core.Logic.{⊎_elim}
use Prim.Native.Nat.{ℕ, ◌≤◌}
use native.Mathlib.Omega.{arith}
use lib.Dec.{eqb}
use lib.ListN.{length}
use Rattle.bits.specs.All.{all_below}
use Rattle.bits.proofs.Cases.{same_truth}
use Rattle.rules.specs.Limits.{max_values, max_rows, max_records, max_entries}
use Rattle.tables.specs.declared.clock.Clock.{Clock}
use Rattle.tables.specs.declared.session.Session.{Session}
use Rattle.tables.specs.Cells.{rows_in_log}
use Rattle.tables.specs.Damage.{all_zero, once_fits, open_fits}
use Rattle.tables.proofs.Sessions.{zero-facts}
use Rattle.session_damage.specs.Parts.{listed, once_in, entries_fit, start_fits}
use Rattle.session_damage.specs.Judged.{judgeable, session_judged}
use Rattle.tables.proofs.Tests.{told, made, both, and_both, either, or_right, not_so}
use Rattle.session_damage.proofs.StartLaws.{start-facts}
use Rattle.session_damage.proofs.EntryLaws.{entries-facts, entries-made}

-- the tests of an open session
record OpenTests (values first stamp : ℕ) (log : List ℕ) (x : Session) : Type 0 where
  live-one : x.live ≡ 1
  start-old : x.start.0 ≤ stamp
  rows_then : eqb x.rows.0 (rows_in_log first log x.start.0) ≡ true
  count_low : x.count ≤ 32
  all_listed : all_below (listed values x.rows.0 x.at x.to) x.count ≡ true
  all_once : all_below (once_in x.at) x.count ≡ true

module _ (values first stamp : ℕ) (log : List ℕ) (x : Session) where
  open-tests : open_fits values first stamp log x ≡ true → OpenTests values first stamp log x
  unfolding open_fits once_fits listed once_in max_entries
  open-tests e = search told depth 8

  tests-open : OpenTests values first stamp log x → open_fits values first stamp log x ≡ true
  unfolding open_fits once_fits listed once_in max_entries
  tests-open f = search made depth 8

-- what makes an open session judgeable
pub record Limits (x : Session) (log : List ℕ) (c : Clock) : Type 0 where
  pub log-room : 2048 ≤ length log
  pub start-low : x.start.0 ≤ 512
  pub rows-low : x.rows.0 ≤ 2048
  pub values_low : c.values.0 ≤ 32

module _ (x : Session) (log : List ℕ) (c : Clock) where
  limits : judgeable x log c ≡ true → Limits x log c
  unfolding judgeable max_records max_rows max_values
  limits e = search told

  pub limits-made : Limits x log c → judgeable x log c ≡ true
  unfolding judgeable max_records max_rows max_values
  limits-made f = search made

  abbrev opens : Bool
  opens = open_fits c.values.0 c.first.0 c.stamp.0 log x

  -- a session whose first cell is not 1 is free
  pub free-judged : (b : Bool) → (x.live ≡ 1 → ⊥) → b ≡ all_zero x → b ≡ session_judged x log c
  unfolding session_judged
  free-judged b n e =
      let o : opens ≡ false = sym (not_so opens (λ z. n (open-tests c.values.0 c.first.0 c.stamp.0 log x z).live-one)) in
      e ∙ sym (or-false (all_zero x))
      ∙ ap (λ (t : Bool). all_zero x || t) (sym (ap (λ (t : Bool). judgeable x log c && t) o ∙ and-false (judgeable x log c)))

  -- of an open one both tests hold
  judged-open : session_judged x log c ≡ true → x.live ≡ 1 → (judgeable x log c ≡ true) × (opens ≡ true)
  unfolding session_judged
  judged-open e h =
      ⊎_elim (λ (z : all_zero x ≡ true). absurd (omega (arith, (zero-facts x z).live-zero)))
      (λ (z : judgeable x log c && opens ≡ true). both (judgeable x log c) opens z)
      (either (all_zero x) (judgeable x log c && opens) e)

  open-judged : judgeable x log c ≡ true → opens ≡ true → session_judged x log c ≡ true
  unfolding session_judged
  open-judged p q = or_right (all_zero x) (judgeable x log c && opens) (and_both (judgeable x log c) opens p q)

  module _ (h : x.live ≡ 1) (b : Bool) (e : b ≡ start_fits x.start.0 x.rows.0 log c) where
    start_of : session_judged x log c ≡ true → start_fits x.start.0 x.rows.0 log c ≡ true
    unfolding start_fits
    start_of z =
        let j = judged-open z h in
        let l = limits j.0 in
        let f = open-tests c.values.0 c.first.0 c.stamp.0 log x j.1 in
        search made

    pub bad-start : b ≡ false → b ≡ session_judged x log c
    bad-start n = n ∙ not_so (session_judged x log c) (λ z. true≢false (sym (start_of z) ∙ sym e ∙ n))

    pub entries-decide : (r : Bool) → b ≡ true → r ≡ entries_fit x.at x.to x.count x.rows.0 c.values.0
        → r ≡ session_judged x log c
    entries-decide r n q =
        same_truth r (session_judged x log c)
        (λ z. let s = start-facts x.start.0 x.rows.0 log c (sym e ∙ n) in
        let f = entries-facts x.at x.to x.count x.rows.0 c.values.0 (sym q ∙ z) in
        open-judged (limits-made (search)) (tests-open c.values.0 c.first.0 c.stamp.0 log x (search)))
        (λ z. let j = judged-open z h in
        let l = limits j.0 in
        let f = open-tests c.values.0 c.first.0 c.stamp.0 log x j.1 in
        q ∙ entries-made x.at x.to x.count x.rows.0 c.values.0 (search))
