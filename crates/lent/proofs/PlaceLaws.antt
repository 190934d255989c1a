-- A place of the lent slice by a test of its number, and the loops over the sixteen places.
use Rattle.std.proofs.Common.{◌≡◌, sym, ◌∙◌, ap, ap₂, subst, ℕ, ◌+◌, ◌≤◌, ◌<◌, Bool, true, false, not, ◌&&◌, T, ltb, List, length, get_or, set}
use Rattle.std.proofs.Math.Facts.{and_yes}
use Rattle.std.proofs.Common.{ltb→lt, le-leb}
use borrow.Author.Tests.{lt-leb}
use Rattle.bits.specs.All.{all_below}
use Rattle.bits.proofs.AllLaws.{all_none, all_more}
use Rattle.bits.proofs.TabLaws.{get_d_any}
use Rattle.tables.specs.declared.session.Session.{Session}
use Rattle.tables.specs.declared.clock.Clock.{Clock}
use Rattle.tables.specs.Sessions.{freed, session_at}
use Rattle.session_damage.specs.Judged.{session_judged}
use Rattle.lent.specs.Places.{seat_at, put_at}
use Rattle.lent.proofs.PlaceTheorems.{seat-there, seat-nowhere, put-there, put-nowhere}
use Rattle.lent.specs.Seats.{all_fit}

holds : (b : Bool) → b ≡ true → T b
holds b e = subst T (sym e) tt

fails : (b : Bool) → b ≡ false → T (not b)
fails b e = subst (λ (z : Bool). T (not z)) (sym e) tt

-- what is read at a place that the slice has, whatever stands for a place that it has not
pub place-there : (ts : List Session) (n : ℕ) (d : Session) → (ltb n 16 && ltb n (length ts)) ≡ true → get_or ts n d ≡ seat_at ts n
place-there ts n d e =
    let h : T (ltb n 16 && ltb n (length ts)) = holds (ltb n 16 && ltb n (length ts)) e in
    let l : n < length ts = ltb→lt n (length ts) (and_yes (ltb n 16) (ltb n (length ts)) h).1 in
    get_d_any ts n d freed l ∙ seat-there ts n h

pub place-nowhere : (ts : List Session) (n : ℕ) → (ltb n 16 && ltb n (length ts)) ≡ false → freed ≡ seat_at ts n
place-nowhere ts n e = seat-nowhere ts n (fails (ltb n 16 && ltb n (length ts)) e)

pub stored-there : (ts : List Session) (n : ℕ) (s : Session) → (ltb n 16 && ltb n (length ts)) ≡ true → set ts n s ≡ put_at ts n s
stored-there ts n s e = put-there ts n s (holds (ltb n 16 && ltb n (length ts)) e)

pub stored-nowhere : (ts : List Session) (n : ℕ) (s : Session) → (ltb n 16 && ltb n (length ts)) ≡ false → ts ≡ put_at ts n s
stored-nowhere ts n s e = put-nowhere ts n s (fails (ltb n 16 && ltb n (length ts)) e)

-- the answer so far: of the places below i, of a slice that has sixteen
module _ (ts : List Session) (log : List ℕ) (c : Clock) where
  abbrev pub fit_below : ℕ → Bool
  fit_below i = all_below (λ j. session_judged (session_at ts j) log c) i

  pub fit-none : true ≡ fit_below 0
  fit-none = sym (all_none (λ j. session_judged (session_at ts j) log c))

  pub fit-more : (ok : Bool) (i : ℕ) (d : Session) → ok ≡ fit_below i → i < length ts → (ok && session_judged (get_or ts i d) log c) ≡ fit_below (i + 1)
  fit-more ok i d e l =
      ap₂ (λ (z : Bool) (s : Session). z && session_judged s log c) e (get_d_any ts i d freed l)
      ∙ sym (all_more (λ j. session_judged (session_at ts j) log c) i)

  pub fit-all : (ok : Bool) → ok ≡ fit_below 16 → 16 ≤ length ts → ok ≡ all_fit ts log c
  fit-all ok e l = e ∙ ap (λ (b : Bool). b && fit_below 16) (sym (le-leb 16 (length ts) l))

  pub too-short : length ts < 16 → false ≡ all_fit ts log c
  too-short l = ap (λ (b : Bool). b && fit_below 16) (sym (lt-leb 16 (length ts) l))
