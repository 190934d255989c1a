-- A log that fits: its row counts never pass the last one, and its flip sets are below C and of rows below that count. Chains
-- and sessions that fit it fit the log with one record more.
use mathlib.Core.Path.{◌≡◌, refl, sym, ap, ◌∙◌}
use mathlib.Core.Bool.{Bool, true, false, cond}
use mathlib.Core.Option.{Option, none, some}
use mathlib.Core.List.{List, [], ◌∷◌, ◌++◌, map, Memᴰ}
use Prim.Native.Nat.{ℕ, zero, suc, ◌+◌, ◌≤◌, ◌<◌, ◌^◌}
use native.Mathlib.Omega.{arith}
use borrow.Author.Tests.{ne_eqb}
use lib.Dec.{eqb, leb}
use lib.Pow.{pow_pos}
use lib.ListN.{length, take, drop, length-append}
use Rattle.bits.proofs.BitLaws.{flip-lt, bit-of-zero}
use Rattle.bits.specs.Choice.{or_else}
use Rattle.bits.specs.Rows.{smallest_below}
use Rattle.bits.proofs.RowLaws.{smallest-some}
use Rattle.rules.specs.State.{Change, Record, Log, Version, Chain, Entry, alter, add, Session, free, opened}
use Rattle.rules.specs.Log.{stamp_of, up_to, between, grown, changes_of, all_changes, naming, last_naming, or_empty, flip_set, rows_at}
use Rattle.rules.specs.Versions.{version_at, flipped, queried}
use Rattle.rules.specs.Lists.{inserts}
use Rattle.rules.specs.Commit.{toggled, row_changes, insert_changes}
use Rattle.rules.proofs.Invariant.{ChangesFit, LogFits, Falls, VectorsFit, Within, EntriesFit, SessionFits}
use Rattle.rules.proofs.LogLaws.{stamp-grown, rows_at-old}

-- ---- the empty log

pub no-changes : length (all_changes []) ≡ 0
unfolding all_changes
no-changes = refl

-- ---- row counts

-- they never pass the last one
count-first : (C n m : ℕ) (log : Log) → LogFits C n log m → n ≤ m
count-first C n m [] h = omega (arith, h)
count-first C n m (x ∷ xs) h = omega (arith, h.0, count-first C x.rows m xs h.2)

pub count_low : (C n m : ℕ) (log : Log) (s : ℕ) → LogFits C n log m → rows_at n log s ≤ m
count_low C n m log zero h = count-first C n m log h
count_low C n m [] (suc s) h = omega (arith, h)
count_low C n m (x ∷ xs) (suc s) h = count_low C x.rows m xs s h.2

-- "row counts .. end at the current one"
pub count-now : (C n m : ℕ) (log : Log) → LogFits C n log m → rows_at n log (stamp_of log) ≡ m
unfolding stamp_of
count-now C n m [] h = h
count-now C n m (x ∷ xs) h = count-now C x.rows m xs h.2

-- ---- changes

pub changes-append : (C n : ℕ) (a b : List Change) → ChangesFit C n a → ChangesFit C n b → ChangesFit C n (a ++ b)
changes-append C n [] b p q = q
changes-append C n (c ∷ a) b p q = (p.0, p.1, changes-append C n a b p.2 q)

changes-more : (C n m : ℕ) (a : List Change) → n ≤ m → ChangesFit C n a → ChangesFit C m a
changes-more C n m [] l p = tt
changes-more C n m (c ∷ a) l p = (omega (arith, p.0), p.1, changes-more C n m a l p.2)

-- every change of a stretch of the log
abbrev RecordsFit : ℕ → ℕ → List Record → Type 0
RecordsFit C n [] = Unit {0}
RecordsFit C n (x ∷ xs) = ChangesFit C n x.changes × RecordsFit C n xs

all_fit : (C n m : ℕ) (log : Log) → LogFits C n log m → RecordsFit C m log
all_fit C n m [] h = tt
all_fit C n m (x ∷ xs) h =
    (changes-more C x.rows m x.changes (count-first C x.rows m xs h.2) h.1, all_fit C x.rows m xs h.2)

some_fit : (C n : ℕ) (xs : List Record) → RecordsFit C n xs → ChangesFit C n (changes_of xs)
some_fit C n [] h = tt
some_fit C n (x ∷ xs) h = changes-append C n x.changes (changes_of xs) h.0 (some_fit C n xs h.1)

take-fit : (C n s : ℕ) (xs : List Record) → RecordsFit C n xs → RecordsFit C n (take s xs)
take-fit C n zero xs h = tt
take-fit C n (suc s) [] h = tt
take-fit C n (suc s) (x ∷ xs) h = (h.0, take-fit C n s xs h.1)

drop-fit : (C n b : ℕ) (xs : List Record) → RecordsFit C n xs → RecordsFit C n (drop b xs)
drop-fit C n zero xs h = h
drop-fit C n (suc b) [] h = tt
drop-fit C n (suc b) (x ∷ xs) h = drop-fit C n b xs h.1

module _ (C n m : ℕ) (log : Log) (h : LogFits C n log m) where
  up_to-fits : (s : ℕ) → ChangesFit C m (changes_of (up_to log s))
  unfolding up_to
  up_to-fits s = some_fit C m (take s log) (take-fit C m s log (all_fit C n m log h))

  between-fits : (b s : ℕ) → ChangesFit C m (changes_of (between log b s))
  unfolding between
  between-fits b s = some_fit C m (drop b (take s log)) (drop-fit C m b (take s log) (take-fit C m s log (all_fit C n m log h)))

-- ---- flip sets

-- the last change naming a row: its set is below C, and there is none for a row at or above the count
last-low : (C n : ℕ) (cs : List Change) (r : ℕ) → ChangesFit C n cs → or_empty (last_naming cs r) < 2 ^ C
last-low C n [] r h = pow_pos C
last-low C n (c ∷ cs) r h = go (last_naming cs r) (last-low C n cs r h.2)
  where
    at : (b : Bool) → or_empty (cond b (some c.flips) none) < 2 ^ C
    at true = h.1
    at false = pow_pos C

    go : (o : Option ℕ) → or_empty o < 2 ^ C → or_empty (or_else o (naming c r)) < 2 ^ C
    go none l = at (eqb c.row r)
    go (some k) l = l

last-beyond : (C n : ℕ) (cs : List Change) (r : ℕ) → ChangesFit C n cs → n ≤ r → last_naming cs r ≡ none
last-beyond C n [] r h l = refl
last-beyond C n (c ∷ cs) r h l = rw (last-beyond C n cs r h.2 l, ne_eqb c.row r (λ e. omega (arith, h.0)))

module _ (C n m : ℕ) (log : Log) (h : LogFits C n log m) where
  pub flip_set-low : (s r : ℕ) → flip_set log s r < 2 ^ C
  unfolding flip_set
  flip_set-low s r = last-low C m (changes_of (up_to log s)) r (up_to-fits C n m log h s)

  pub flip_set-beyond : (s r : ℕ) → m ≤ r → flip_set log s r ≡ 0
  unfolding flip_set
  flip_set-beyond s r l = rw (last-beyond C m (changes_of (up_to log s)) r (up_to-fits C n m log h s) l)

  version-beyond : (ch : Chain) (s r : ℕ) → VectorsFit n log ch → m ≤ r → (version_at ch s).vector r ≡ false
  unfolding version_at
  version-beyond [] s r f l = refl
  version-beyond (x ∷ xs) s r f l = go (leb x.stamp s) (version-beyond xs s r f.1 l)
    where
      go : (b : Bool) → (version_at xs s).vector r ≡ false → (cond b x (version_at xs s)).vector r ≡ false
      go true ih = f.0 r (omega (arith, count_low C n m log x.stamp h))
      go false ih = ih

  -- no query has a row at or above the row count
  pub queried-beyond : (ch : Chain) (s v r : ℕ) → VectorsFit n log ch → m ≤ r → queried log ch s v r ≡ false
  unfolding queried flipped
  queried-beyond ch s v r f l =
      let b = (version_at ch s).stamp in
      rw (version-beyond ch s r f l, last-beyond C m (changes_of (between log b s)) r (between-fits C n m log h b s) l) (bit-of-zero v)

-- a value that a search below n finds is below n
pub smallest-low : (n : ℕ) (f : ℕ → Bool) → Within n (smallest_below f n)
smallest-low n f = go (smallest_below f n) refl
  where
    go : (o : Option ℕ) → smallest_below f n ≡ o → Within n o
    go none e = tt
    go (some a) e = ((smallest-some f n a).0 e).below

pub toggled-low : (C m : ℕ) (o : Option ℕ) → m < 2 ^ C → Within C o → toggled m o < 2 ^ C
unfolding toggled
toggled-low C m none h w = h
toggled-low C m (some a) h w = flip-lt C m a h w

-- ---- the changes of a new record

pub rows_fit : (C n m : ℕ) (g : ℕ → Option ℕ → ℕ) (es : List Entry) → ((r : ℕ) (t : Option ℕ) → Within C t → g r t < 2 ^ C) → n ≤ m
    → EntriesFit C n es
    → ChangesFit C m (row_changes g es)
rows_fit C n m g [] h l f = tt
rows_fit C n m g (alter r t ∷ es) h l f = (omega (arith, f.0), h r t f.1, rows_fit C n m g es h l f.2)
rows_fit C n m g (add v ∷ es) h l f = rows_fit C n m g es h l f.1

pub inserts-fit : (C k m : ℕ) (es : List Entry) (n : ℕ) → EntriesFit C k es → n + length (inserts es) ≤ m
    → ChangesFit C m (insert_changes n (inserts es))
inserts-fit C k m [] n f l = tt
inserts-fit C k m (alter r t ∷ es) n f l = inserts-fit C k m es n f.2 l
inserts-fit C k m (add v ∷ es) n f l = (omega arith, flip-lt C 0 v (pow_pos C) f.0, inserts-fit C k m es (suc n) f.1 (omega arith))

-- a change for each entry
pub length-made : (g : ℕ → Option ℕ → ℕ) (n : ℕ) (es : List Entry) → length (row_changes g es ++ insert_changes n (inserts es)) ≡ length es
length-made g n [] = refl
length-made g n (alter r t ∷ es) = ap suc (length-made g n es)
length-made g n (add v ∷ es) = rw length-append (omega (arith, simp length-append at (length-made g (suc n) es)))

-- a change for each of some rows
pub map-fit : (C m : ℕ) (g : ℕ → Change) (rs : List ℕ) → ((r : ℕ) → Memᴰ r rs → ((g r).row < m) × ((g r).flips < 2 ^ C))
    → ChangesFit C m (map g rs)
map-fit C m g [] h = tt
map-fit C m g (r ∷ rs) h =
    let p = h r (Memᴰ.head refl) in
    (p.0, p.1, map-fit C m g rs (λ q k. h q (Memᴰ.tail k)))

-- ---- chains and sessions, with one record more

pub falls-more : (b c : ℕ) (ch : Chain) → b ≤ c → Falls b ch → Falls c ch
falls-more b c [] l h = h
falls-more b c (x ∷ []) l h = (omega (arith, h.0), h.1)
falls-more b c (x ∷ y ∷ ys) l h = (omega (arith, h.0), h.1)

pub falls-cons : (b : ℕ) (x : Version) (ch : Chain) → x.stamp < b → Falls x.stamp ch → Falls b (x ∷ ch)
falls-cons b x [] l h = absurd h
falls-cons b x (y ∷ ys) l h = (l, h)

pub vectors-grown : (n b : ℕ) (log : Log) (z : Record) (ch : Chain) → b ≤ suc (stamp_of log) → Falls b ch → VectorsFit n log ch
    → VectorsFit n (grown log z) ch
vectors-grown n b log z [] l f h = absurd f
vectors-grown n b log z (x ∷ []) l f h = (λ r q. h.0 r (rw (rows_at-old n log z x.stamp (omega (arith, f.0))) at q), tt)
vectors-grown n b log z (x ∷ y ∷ ys) l f h = (
  λ r q. h.0 r (rw (rows_at-old n log z x.stamp (omega (arith, f.0))) at q),
  vectors-grown n x.stamp log z (y ∷ ys) (omega (arith, f.0)) f.1 h.1,
)

pub session-grown : (C n : ℕ) (log : Log) (z : Record) (x : Session) → SessionFits C n log x → SessionFits C n (grown log z) x
session-grown C n log z free h = tt
session-grown C n log z (opened s m es) h =
    record {
      start-old = rw (stamp-grown log z) (omega (arith, h.start-old));
      start-rows = h.start-rows ∙ sym (rows_at-old n log z s h.start-old);
      short = h.short;
      once = h.once;
      fit = h.fit;
    }
