-- The log's stretches, and the flip sets at a stamp: what the other proofs know of how the log lies. Beside this file only
-- Fits.antt unfolds `stamp_of`, `up_to`, `above`, `between`, `grown` or `all_changes`. And the version of a value at a stamp.
use mathlib.Core.Path.{◌≡◌, refl, sym, ap, ◌∙◌}
use mathlib.Core.Bool.{false, Bool, true, cond}
use mathlib.Core.Option.{Option, none, some, get_or}
use mathlib.Core.List.{List, [], ◌∷◌, ◌++◌}
use Prim.Native.Nat.{ℕ, zero, suc, ◌≤◌, ◌<◌}
use native.Mathlib.Nat.{le_of_suc-le-suc, not-suc-le-zero}
use native.Mathlib.Omega.{arith}
use borrow.Author.Tests.{leb-true, leb-false, le-leb, lt-leb}
use lib.ListN.{take, drop, take-append-drop}
use lib.Seq.{take-append-le, drop-append-le, take-take, take-length, take-nil, drop-nil}
use lib.Dec.{leb}
use Rattle.bits.specs.Bit.{bit}
use Rattle.bits.proofs.BitLaws.{bit-of-zero}
use Rattle.bits.specs.Choice.{or_else}
use Rattle.rules.specs.State.{Record, Log, Chain, Version}
use Rattle.rules.specs.Log.{stamp_of, up_to, above, between, grown, changes_of, all_changes, last_naming, or_empty, flip_set, rows_at}
use Rattle.rules.specs.Versions.{version_at, flipped, newest}
use Rattle.rules.proofs.Invariant.{ChangesFit, LogFits}
use Rattle.rules.proofs.Small.{length-snoc, take_snoc, drop-snoc}
use Rattle.rules.proofs.Changes.{last_naming-append, changes_of-append, changes_of-snoc}

-- ---- the empty log

pub stamp-empty : stamp_of [] ≡ 0
unfolding stamp_of
stamp-empty = refl

pub flip_set-empty : (k r : ℕ) → flip_set [] k r ≡ 0
unfolding flip_set up_to
flip_set-empty k r = rw (take-nil k)

pub above-empty : (k : ℕ) → above [] k ≡ []
unfolding above
above-empty k = drop-nil k

-- ---- one record more

pub stamp-grown : (log : Log) (x : Record) → stamp_of (grown log x) ≡ suc (stamp_of log)
unfolding stamp_of grown
stamp-grown log x = length-snoc log x

pub all_changes-grown : (log : Log) (x : Record) → all_changes (grown log x) ≡ all_changes log ++ x.changes
unfolding all_changes grown
all_changes-grown log x = changes_of-snoc log x

pub above-old : (log : Log) (x : Record) (k : ℕ) → k ≤ stamp_of log
    → changes_of (above (grown log x) k) ≡ changes_of (above log k) ++ x.changes
unfolding stamp_of above grown
above-old log x k h = rw (drop-append-le k log (x ∷ []) h) (changes_of-snoc (drop k log) x)

pub above_new : (log : Log) (x : Record) → above (grown log x) (suc (stamp_of log)) ≡ []
unfolding stamp_of above grown
above_new log x = drop-snoc log x

-- ---- the flip set of a row

-- the last change decides, or what stood before
laid : (a b : Option ℕ) → or_empty (or_else a b) ≡ get_or a (or_empty b)
laid none b = refl
laid (some m) b = refl

pub flip_set-old : (log : Log) (x : Record) (k r : ℕ) → k ≤ stamp_of log → flip_set (grown log x) k r ≡ flip_set log k r
unfolding flip_set stamp_of up_to grown
flip_set-old log x k r h = rw (take-append-le k log (x ∷ []) h)

pub flip_set-new : (log : Log) (x : Record) (r : ℕ)
    → flip_set (grown log x) (suc (stamp_of log)) r ≡ get_or (last_naming x.changes r) (flip_set log (stamp_of log) r)
unfolding flip_set stamp_of up_to grown
flip_set-new log x r =
    rw (take_snoc log x, changes_of-snoc log x, last_naming-append (changes_of log) x.changes r, take-length)
    (laid (last_naming x.changes r) (last_naming (changes_of log) r))

-- the set now: that of the last change above s, or the one at s
pub flip_set-since : (log : Log) (s r : ℕ)
    → flip_set log (stamp_of log) r ≡ get_or (last_naming (changes_of (above log s)) r) (flip_set log s r)
unfolding flip_set stamp_of up_to above
flip_set-since log s r =
    rw take-length
    (ap (λ (l : List Record). or_empty (last_naming (changes_of l) r)) (sym (take-append-drop s log))
    ∙ rw (changes_of-append, last_naming-append) (laid (last_naming (changes_of (drop s log)) r) (last_naming (changes_of (take s log)) r)))

-- what no record above s names keeps its set
pub flip_set-kept : (log : Log) (s r : ℕ) → last_naming (changes_of (above log s)) r ≡ none → flip_set log (stamp_of log) r ≡ flip_set log s r
flip_set-kept log s r e = flip_set-since log s r ∙ rw e

-- where the sets at a version's stamp are free of v, its own range of records decides as all of them do
pub flipped-is : (log : Log) (ch : Chain) (s v r : ℕ) → (version_at ch s).stamp ≤ s → bit (flip_set log (version_at ch s).stamp r) v ≡ false
    → flipped log ch s v r ≡ bit (flip_set log s r) v
unfolding flipped flip_set up_to between
flipped-is log ch s v r h e = go (last_naming (changes_of (drop b (take s log))) r) split
  where
    b : ℕ
    b = (version_at ch s).stamp

    split : last_naming (changes_of (take s log)) r
        ≡ or_else (last_naming (changes_of (drop b (take s log))) r) (last_naming (changes_of (take b log)) r)
    split =
        ap (λ (l : List Record). last_naming (changes_of l) r) (sym (take-append-drop b (take s log)))
        ∙ rw (changes_of-append, last_naming-append, take-take b s log h)

    go : (o : Option ℕ) → last_naming (changes_of (take s log)) r ≡ or_else o (last_naming (changes_of (take b log)) r)
        → bit (or_empty o) v ≡ bit (or_empty (last_naming (changes_of (take s log)) r)) v
    go none q = rw (q, e) (bit-of-zero v)
    go (some m) q = rw q

-- ---- row counts

pub rows_at-old : (n : ℕ) (log : Log) (x : Record) (k : ℕ) → k ≤ stamp_of log → rows_at n (grown log x) k ≡ rows_at n log k
unfolding stamp_of grown
rows_at-old n log x zero h = refl
rows_at-old n [] x (suc k) h = absurd (not-suc-le-zero h)
rows_at-old n (y ∷ log) x (suc k) h = rows_at-old y.rows log x k (le_of_suc-le-suc h)

pub rows_at-new : (n : ℕ) (log : Log) (x : Record) → rows_at n (grown log x) (suc (stamp_of log)) ≡ x.rows
unfolding stamp_of grown
rows_at-new n [] x = refl
rows_at-new n (y ∷ log) x = rows_at-new y.rows log x

pub fits-grown : (C n : ℕ) (log : Log) (x : Record) (m : ℕ) → LogFits C n log m → m ≤ x.rows → ChangesFit C x.rows x.changes
    → LogFits C n (grown log x) x.rows
unfolding grown
fits-grown C n [] x m e l f = (rw e l, f, refl)
fits-grown C n (y ∷ log) x m h l f = (h.0, h.1, fits-grown C y.rows log x m h.2 l f)

pub version-newest : (ch : Chain) (k : ℕ) → (newest ch).stamp ≤ k → version_at ch k ≡ newest ch
unfolding version_at
version-newest [] k h = refl
version-newest (x ∷ xs) k h = rw (le-leb x.stamp k h)

pub version-older : (x : Version) (ch : Chain) (k : ℕ) → k < x.stamp → version_at (x ∷ ch) k ≡ version_at ch k
unfolding version_at
version-older x ch k h = rw (lt-leb x.stamp k h)

pub version-before : (ch : Chain) (k : ℕ) → (version_at ch k).stamp ≤ k
unfolding version_at
version-before [] k = omega arith
version-before (x ∷ xs) k = go (leb x.stamp k) refl (version-before xs k)
  where
    go : (b : Bool) → leb x.stamp k ≡ b → (version_at xs k).stamp ≤ k → (cond b x (version_at xs k)).stamp ≤ k
    go true e h = leb-true x.stamp k e
    go false e h = h

-- at its own stamp a version is found again
pub version-again : (ch : Chain) (k : ℕ) → version_at ch (version_at ch k).stamp ≡ version_at ch k
unfolding version_at
version-again [] k = refl
version-again (x ∷ xs) k = go (leb x.stamp k) refl (version-again xs k) (version-before xs k)
  where
    go : (b : Bool) → leb x.stamp k ≡ b → version_at xs (version_at xs k).stamp ≡ version_at xs k → (version_at xs k).stamp ≤ k
        → version_at (x ∷ xs) (cond b x (version_at xs k)).stamp ≡ cond b x (version_at xs k)
    go true e ih h = rw (le-leb x.stamp x.stamp (omega arith))
    go false e ih h =
        let l : k < x.stamp = leb-false x.stamp k e in
        let m : (version_at xs k).stamp < x.stamp = omega arith in
        rw (lt-leb x.stamp (version_at xs k).stamp m) ih
