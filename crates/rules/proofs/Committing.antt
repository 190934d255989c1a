-- A commit, and a tidy that is not stale, keep the agreement of log, versions and events. The heart of a commit is proved on the
-- flip sets at the present stamp; where nothing conflicts, those at the start are the same.
use mathlib.Core.Path.{◌≡◌, refl, sym, ap, ◌∙◌}
use mathlib.Core.Bool.{Bool, true, false, ◌||◌, cond, or-false, or-true, true≢false, false≢true, not, ◌&&◌}
use mathlib.Core.Option
use mathlib.Core.Option.{Option, none, some, none-ne-some, some-injective}
use mathlib.Core.List.Memᴰ
use mathlib.Core.List.{List, [], ◌∷◌, ◌++◌, map, Memᴰ}
use mathlib.Core.Logic.{◌⊎◌, inl, inr, ◌↔◌, ⊎_elim}
use Prim.Native.Nat.{ℕ, zero, suc, ◌+◌, ◌-◌, ◌≤◌, ◌<◌}
use native.Mathlib.Omega.{arith}
use borrow.Author.Tests.{eqb-true, eq-eqb, ne_eqb, ltb-false}
use lib.Dec.{eqb, ltb}
use lib.ListN.{length, get_or, length-map, get_or-eq_default, set, length-set}
use lib.Seq.{get_or-append-add, get_or-set_same, get_or-set_other}
use Rattle.bits.proofs.Cases.{eq-cases, lt-cases, bool_cases, same_truth}
use Rattle.bits.specs.Bit.{xorb, bit, flip_bit, clear_bit}
use Rattle.bits.proofs.BitLaws.{xorb-comm, xorb-swap, bit-flip, bit-clear}
use Rattle.bits.specs.Choice.{or_else, or_else-none}
use Rattle.bits.specs.Rows.{rows_below}
use Rattle.bits.proofs.RowLaws.{rows-mem, mem-rows}
use Rattle.rules.specs.Limits.{max_rows}
use Rattle.rules.specs.State.{Record, commits, Log, Chain, chain, Entry, alter, add, Change, tidies, Version}
use Rattle.rules.specs.Log.{stamp_of, above, grown, changes_of, last_naming, names, flip_set, some_change}
use Rattle.rules.specs.Versions.{read_at, newest, queried}
use Rattle.rules.specs.Lists.{target, lists, inserts, standing}
use Rattle.rules.specs.Commit.{toggled, new_set, row_changes, insert_changes, conflicts}
use Rattle.rules.specs.Calls.{Column, cell, holds}
use Rattle.rules.specs.Plain.{Wish, Event, committed, rewritten, new_rows, met, is_wished, replay, tidied, is_in_rows}
use Rattle.rules.specs.Tidy.{moves, moved, stale, tidy_change, tidy_changes}
use Rattle.rules.proofs.Invariant.{Within, EntriesFit, EachOnce}
use Rattle.rules.proofs.Small.{clash, xorb-false, turn-none, or_parts, option_cases}
use Rattle.rules.proofs.Changes.{last_naming-append, names-append, not_named, none_named, last-fails}
use Rattle.rules.proofs.LogLaws.{flip_set-new, flip_set-kept, flip_set-since, version-newest}
use Rattle.rules.proofs.PlainLaws.{column_after, length-rewritten, length-met, met-low, column-grows, Same, same_lists, same-cell}
use Rattle.rules.proofs.ListLaws.{is_given, lists-target}
use Rattle.rules.proofs.Agrees.{Logged, grow-logged, still, valued-now, columns-fit, Agrees, agrees-kept, right-now, queried-is}
use Rattle.rules.proofs.Agrees.{moves-none, agrees-renewed, Core, read_is}

-- ---- the changes of a commit, row by row

no_target : (es : List Entry) (r : ℕ) → lists es r ≡ false → target es r ≡ none
no_target es r e = go (target es r) (sym (lists-target es r) ∙ e)
  where
    go : (o : Option (Option ℕ)) → is_given o ≡ false → o ≡ none
    go none q = refl
    go (some t) q = absurd (true≢false q)

-- a listed row has the set for its target
rows-naming : (g : ℕ → Option ℕ → ℕ) (es : List Entry) (r : ℕ) → EachOnce es
    → last_naming (row_changes g es) r ≡ Option.map (g r) (target es r)
rows-naming g [] r o = refl
rows-naming g (add v ∷ es) r o = rows-naming g es r o
rows-naming g (alter q t ∷ es) r o = rw (rows-naming g es r o.1) (go (eq-cases q r))
  where
    go : (q ≡ r) ⊎ (q ≡ r → ⊥)
        → or_else (Option.map (g r) (target es r)) (cond (eqb q r) (some (g q t)) none)
        ≡ Option.map (g r) (cond (eqb q r) (some t) (target es r))
    go (inl e) = rw (no_target es r (rw e at o.0), eq-eqb q r e, e)
    go (inr d) = rw (ne_eqb q r d) (or_else-none (Option.map (g r) (target es r)))

rows-names : (g : ℕ → Option ℕ → ℕ) (es : List Entry) (r : ℕ) → names (row_changes g es) r ≡ lists es r
rows-names g [] r = refl
rows-names g (alter q t ∷ es) r = rw (rows-names g es r)
rows-names g (add v ∷ es) r = rows-names g es r

-- two sets for each listed row that are one make the same changes
rows_same : (f g : ℕ → Option ℕ → ℕ) (es : List Entry) → ((r : ℕ) (t : Option ℕ) → lists es r ≡ true → f r t ≡ g r t)
    → row_changes f es ≡ row_changes g es
rows_same f g [] e = refl
rows_same f g (alter q t ∷ es) e =
    rw (e q t (rw (eq-eqb q q refl)), rows_same f g es (λ r u l. e r u (rw l (or-true (eqb q r)))))
rows_same f g (add v ∷ es) e = rows_same f g es e

-- the inserts stand at the rows from n on
inserts-low : (n : ℕ) (vs : List ℕ) (r : ℕ) → r < n → last_naming (insert_changes n vs) r ≡ none
inserts-low n [] r l = refl
inserts-low n (v ∷ vs) r l = rw (inserts-low (suc n) vs r (omega arith), ne_eqb n r (omega arith))

inserts-at : (n : ℕ) (vs : List ℕ) (r i : ℕ) → r ≡ n + i
    → last_naming (insert_changes n vs) r ≡ Option.map (flip_bit 0) (get_or (map some vs) i none)
inserts-at n [] r i e = refl
inserts-at n (v ∷ vs) r zero e = rw (inserts-low (suc n) vs r (omega arith), eq-eqb n r (omega arith))
inserts-at n (v ∷ vs) r (suc i) e =
    rw (inserts-at (suc n) vs r i (omega arith), ne_eqb n r (omega arith))
    (or_else-none (Option.map (flip_bit 0) (get_or (map some vs) i none)))

-- ---- lists that fit

fits-high : (C n : ℕ) (es : List Entry) (r : ℕ) → EntriesFit C n es → n ≤ r → target es r ≡ none
fits-high C n [] r f l = refl
fits-high C n (alter q t ∷ es) r f l = rw (ne_eqb q r (omega (arith, f.0))) (fits-high C n es r f.2 l)
fits-high C n (add v ∷ es) r f l = fits-high C n es r f.1 l

fits-target : (C n : ℕ) (es : List Entry) (r a : ℕ) → EntriesFit C n es → target es r ≡ some (some a) → a < C
fits-target C n [] r a f e = absurd (none-ne-some (some a) e)
fits-target C n (add v ∷ es) r a f e = fits-target C n es r a f.1 e
fits-target C n (alter q t ∷ es) r a f e = go (eqb q r) e (λ x. fits-target C n es r a f.2 x)
  where
    go : (b : Bool) → cond b (some t) (target es r) ≡ some (some a) → (target es r ≡ some (some a) → a < C) → a < C
    go true x ih = let w : Within C (some a) = rw (some-injective t (some a) x) at f.1 in w
    go false x ih = ih x

fits-added : (C n : ℕ) (es : List Entry) (i a : ℕ) → EntriesFit C n es → get_or (map some (inserts es)) i none ≡ some a → a < C
fits-added C n [] i a f e = absurd (none-ne-some a e)
fits-added C n (alter q t ∷ es) i a f e = fits-added C n es i a f.2 e
fits-added C n (add v ∷ es) zero a f e = rw (← (some-injective v a e)) f.0
fits-added C n (add v ∷ es) (suc i) a f e = fits-added C n es i a f.1 e

pub fits_more : (C n m : ℕ) (es : List Entry) → n ≤ m → EntriesFit C n es → EntriesFit C m es
fits_more C n m [] l f = tt
fits_more C n m (alter r t ∷ es) l f = (omega (arith, f.0), f.1, fits_more C n m es l f.2)
fits_more C n m (add v ∷ es) l f = (f.0, fits_more C n m es l f.1)

-- the record of a commit: the set for each listed row from g, then the inserts
abbrev pub commit_of : (ℕ → Option ℕ → ℕ) → ℕ → List Entry → Record
commit_of g rows es =
    record { kind = commits; rows = rows + length (inserts es); changes = row_changes g es ++ insert_changes rows (inserts es) }

-- ---- the log after a commit, and one value's versions

module _ (C : ℕ) (col : Column) (rows : ℕ) (log : Log) (h : List Event) (c : Logged C col rows log h)
    (es : List Entry) (ws : List Wish) (same : Same es ws) (once : EachOnce es) (fits : EntriesFit C rows es) (g : ℕ → Option ℕ → ℕ) where
  -- what was added, by its place
  added : ℕ → Option ℕ
  added r = get_or (map some (inserts es)) (r - rows) none

  naming-at : (r : ℕ)
      → last_naming (commit_of g rows es).changes r ≡ or_else (last_naming (insert_changes rows (inserts es)) r)
      (Option.map (g r) (target es r))
  naming-at r = rw (last_naming-append (row_changes g es) (insert_changes rows (inserts es)) r, rows-naming g es r once)

  low-naming : (r : ℕ) → r < rows → last_naming (commit_of g rows es).changes r ≡ Option.map (g r) (target es r)
  low-naming r l = naming-at r ∙ rw (inserts-low rows (inserts es) r l)

  high-naming : (r : ℕ) → rows ≤ r → last_naming (commit_of g rows es).changes r ≡ Option.map (flip_bit 0) (added r)
  unfolding added
  high-naming r l =
      naming-at r ∙ rw (fits-high C rows es r fits l, inserts-at rows (inserts es) r (r - rows) (omega arith))
      (or_else-none (Option.map (flip_bit 0) (get_or (map some (inserts es)) (r - rows) none)))

  low-cell : (r : ℕ) → r < rows → cell (met (replay col h) ws) r ≡ standing (target es r) (cell (replay col h) r)
  low-cell r l =
      let m : r < length (replay col h) = omega (arith, c.rows-now) in
      met-low (replay col h) ws r m ∙ same-cell es ws same (replay col h) r m

  high-cell : (r : ℕ) → rows ≤ r → cell (met (replay col h) ws) r ≡ added r
  unfolding added
  high-cell r l =
      let e : r ≡ length (rewritten (replay col h) ws) + (r - rows) = omega (arith, length-rewritten (replay col h) ws, c.rows-now) in
      ap (λ (k : ℕ). cell (met (replay col h) ws) k) e
      ∙ rw (get_or-append-add (rewritten (replay col h) ws) (new_rows ws) (r - rows) none, same.adds)

  commit-valued : (r a : ℕ) → cell (met (replay col h) ws) r ≡ some a → a < C
  unfolding added
  commit-valued r a e = go (lt-cases r rows)
    where
      low : (o : Option (Option ℕ)) → target es r ≡ o → standing o (cell (replay col h) r) ≡ some a → a < C
      low none q x = valued-now C col rows log h c r a x
      low (some t) q x = fits-target C rows es r a fits (q ∙ ap some x)

      go : (r < rows) ⊎ (rows ≤ r) → a < C
      go (inl l) = low (target es r) refl (sym (low-cell r l) ∙ e)
      go (inr l) = fits-added C rows es (r - rows) a fits (sym (high-cell r l) ∙ e)

  commit-seen : (r : ℕ) → r < rows → names (commit_of g rows es).changes r ≡ is_wished ws r
  commit-seen r l =
      rw (
        names-append (row_changes g es) (insert_changes rows (inserts es)) r,
        rows-names g es r,
        none_named (insert_changes rows (inserts es)) r (inserts-low rows (inserts es) r l),
        same_lists es ws same r,
      )
      (or-false (lists es r))

  pub commit-logged : rows + length (inserts es) ≤ max_rows
      → Logged C col (rows + length (inserts es)) (grown log (commit_of g rows es)) (h ++ (committed ws ∷ []))
  unfolding added
  commit-logged room =
      grow-logged C col rows log h c (commit_of g rows es) (committed ws)
      record {
        next-rows =
            rw (length-met (replay col h) ws, same.adds, c.rows-now)
            (ap (λ (n : ℕ). length (replay col h) + n) (sym (length-map (inserts es) some)));
        next-fit = room;
        next-valued = commit-valued;
        next-within =
            λ r l. high-naming r (omega arith) ∙ rw (get_or-eq_default (map some (inserts es)) none {n =
            r - rows} (omega (arith, length-map (inserts es) some)));
        next-seen = commit-seen;
      }

  -- a value agrees after the commit where the sets turn its rows as the list asks
  pub commit-agrees : (ch : Chain) (v : ℕ) → Agrees log ch v col h
      → ((r : ℕ) (t : Option ℕ) → lists es r ≡ true → bit (g r t) v ≡ xorb (bit (flip_set log (stamp_of log) r) v)
      (xorb (holds (cell (replay col h) r) v) (holds t v)))
      → Agrees (grown log (commit_of g rows es)) ch v col (h ++ (committed ws ∷ []))
  unfolding added
  commit-agrees ch v a turns =
      agrees-kept log ch v col h a c.pace (commit_of g rows es) (committed ws) refl
      (λ r. rw (flip_set-new log (commit_of g rows es) r) (go r (lt-cases r rows)))
    where
      low : (r : ℕ) (o : Option (Option ℕ)) → target es r ≡ o → bit (Option.get_or (Option.map (g r) o) (flip_set log (stamp_of log) r)) v
          ≡ xorb (bit (flip_set log (stamp_of log) r) v)
          (xorb (holds (cell (replay col h) r) v) (holds (standing o (cell (replay col h) r)) v))
      low r none q = turn-none (bit (flip_set log (stamp_of log) r) v) (holds (cell (replay col h) r) v)
      low r (some t) q = turns r t (lists-target es r ∙ rw q)

      high : (o : Option ℕ) → bit (Option.get_or (Option.map (flip_bit 0) o) 0) v ≡ xorb (bit 0 v) (holds o v)
      high none = sym (xorb-false (bit 0 v))
      high (some u) = bit-flip 0 u v ∙ xorb-comm (eqb u v) (bit 0 v)

      go : (r : ℕ) → (r < rows) ⊎ (rows ≤ r)
          → bit (Option.get_or (last_naming (commit_of g rows es).changes r) (flip_set log (stamp_of log) r)) v
          ≡ xorb (bit (flip_set log (stamp_of log) r) v) (xorb (holds (cell (replay col h) r) v) (holds (cell (met (replay col h) ws) r) v))
      go r (inl l) = rw (low-naming r l, low-cell r l) (low r (target es r) refl)
      go r (inr l) =
          rw (high-naming r l, high-cell r l, c.within r l, get_or-eq_default (replay col h) none {n = r} (omega (arith, c.rows-now)))
          (high (get_or (map some (inserts es)) (r - rows) none))

-- ---- the sets of document 01

bit-toggled : (m : ℕ) (o : Option ℕ) (v : ℕ) → bit (toggled m o) v ≡ xorb (holds o v) (bit m v)
unfolding toggled
bit-toggled m none v = refl
bit-toggled m (some a) v = bit-flip m a v

xorb-turn : (m a b : Bool) → xorb b (xorb a m) ≡ xorb m (xorb a b)
xorb-turn m a b = xorb-swap b a m ∙ (ap (xorb a) (xorb-comm b m) ∙ sym (xorb-swap m a b))

-- a conflict: a listed row that a record above s names
pub conflicts-means : (log : Log) (s : ℕ) (es : List Entry)
    → (conflicts log s es ≡ true) ↔ ((r : ℕ) × (lists es r ≡ true) × (names (changes_of (above log s)) r ≡ true))
conflicts-means log s [] = (λ e. absurd (false≢true e), λ p. absurd (false≢true p.1))
conflicts-means log s (add v ∷ es) = conflicts-means log s es
conflicts-means log s (alter q t ∷ es) =
    (to (bool_cases (named q)) (conflicts-means log s es).0, λ p. from p (bool_cases (eqb q p.0)) (conflicts-means log s es).1)
  where
    named : ℕ → Bool
    named r = names (changes_of (above log s)) r

    to : (named q ≡ true) ⊎ (named q ≡ false) → (conflicts log s es ≡ true → (r : ℕ) × (lists es r ≡ true) × (named r ≡ true))
        → (named q || conflicts log s es) ≡ true → (r : ℕ) × ((eqb q r || lists es r) ≡ true) × (named r ≡ true)
    to (inl b) ih e = (q, rw (eq-eqb q q refl), b)
    to (inr b) ih e = let p = ih (rw b at e) in (p.0, rw p.1 (or-true (eqb q p.0)), p.2)

    from : (p : (r : ℕ) × ((eqb q r || lists es r) ≡ true) × (named r ≡ true)) → (eqb q p.0 ≡ true) ⊎ (eqb q p.0 ≡ false)
        → (((r : ℕ) × (lists es r ≡ true) × (named r ≡ true)) → conflicts log s es ≡ true) → (named q || conflicts log s es) ≡ true
    from p (inl b) ih = rw (eqb-true q p.0 b, p.2)
    from p (inr b) ih = rw (ih (p.0, rw b at p.1, p.2)) (or-true (named q))

pub fits-row : (C n : ℕ) (es : List Entry) (r : ℕ) → EntriesFit C n es → lists es r ≡ true → r < n
fits-row C n es r f l =
    ⊎_elim (λ (o : r < n). o) (λ (o : n ≤ r). absurd (clash l (lists-target es r ∙ rw (fits-high C n es r f o)))) (lt-cases r n)

-- ---- the whole index after a commit

module _ (C : ℕ) (col : Column) (rows : ℕ) (log : Log) (chains : List Chain) (h : List Event) (c : Core C col rows log chains h)
    (s : ℕ) (old : s ≤ length h) (es : List Entry) (ws : List Wish) (same : Same es ws) (once : EachOnce es)
    (fits : EntriesFit C (length (column_after col h s)) es) (room : rows + length (inserts es) ≤ max_rows) where
  -- with the sets at the present stamp, where each listed row holds now what it held at s
  pub commit-present : ((r : ℕ) → lists es r ≡ true → cell (replay col h) r ≡ cell (column_after col h s) r)
      → Core C col (rows + length (inserts es)) (grown log (commit_of (new_set C log chains (stamp_of log) s) rows es)) chains
      (h ++ (committed ws ∷ []))
  commit-present held =
      record {
        logged = commit-logged C col rows log h c.logged es ws same once now g room;
        width = c.width;
        agrees =
            λ v l. commit-agrees C col rows log h c.logged es ws same once now g (chain chains v) v (c.agrees v l) (λ r t. turns v r t);
      }
    where
      now : EntriesFit C rows es
      now = fits_more C (length (column_after col h s)) rows es (omega (arith, column-grows col h s, c.logged.rows-now)) fits

      g : ℕ → Option ℕ → ℕ
      g = new_set C log chains (stamp_of log) s

      turns : (v r : ℕ) (t : Option ℕ) → lists es r ≡ true
          → bit (g r t) v ≡ xorb (bit (flip_set log (stamp_of log) r) v) (xorb (holds (cell (replay col h) r) v) (holds t v))
      turns v r t l =
          let m = flip_set log (stamp_of log) r in
          let a = read_at C log chains s r in
          bit-toggled (toggled m a) t v
          ∙ rw (bit-toggled m a v, read_is C col rows log chains h c s old r, ← (held r l))
          (xorb-turn (bit m v) (holds (cell (replay col h) r) v) (holds t v))

  -- with the sets at the start, where nothing conflicts: they are the sets now
  pub commit-keeps : conflicts log s es ≡ false
      → Core C col (rows + length (inserts es)) (grown log (commit_of (new_set C log chains s s) rows es)) chains (h ++ (committed ws ∷ []))
  commit-keeps calm = rw (rows_same (new_set C log chains s s) (new_set C log chains (stamp_of log) s) es same_set) (commit-present held)
    where
      unnamed : (r : ℕ) → lists es r ≡ true → names (changes_of (above log s)) r ≡ false
      unnamed r l =
          ⊎_elim (λ (n : names (changes_of (above log s)) r ≡ true). absurd (clash ((conflicts-means log s es).1 (r, l, n)) calm))
          (λ (n : names (changes_of (above log s)) r ≡ false). n) (bool_cases (names (changes_of (above log s)) r))

      held : (r : ℕ) → lists es r ≡ true → cell (replay col h) r ≡ cell (column_after col h s) r
      held r l = still C col rows log h c.logged s r old (fits-row C (length (column_after col h s)) es r fits l) (unnamed r l)

      same_set : (r : ℕ) (t : Option ℕ) → lists es r ≡ true → new_set C log chains s s r t ≡ new_set C log chains (stamp_of log) s r t
      same_set r t l = rw (flip_set-kept log s r (not_named (changes_of (above log s)) r (unnamed r l)))

-- ---- a list of rows, each with a change

in_mem : (rs : List ℕ) (r : ℕ) → is_in_rows rs r ≡ true → Memᴰ r rs
in_mem [] r e = absurd (false≢true e)
in_mem (q ∷ rs) r e = go (bool_cases (eqb q r)) (in_mem rs r)
  where
    go : (eqb q r ≡ true) ⊎ (eqb q r ≡ false) → (is_in_rows rs r ≡ true → Memᴰ r rs) → Memᴰ r (q ∷ rs)
    go (inl b) ih = Memᴰ.head (sym (eqb-true q r b))
    go (inr b) ih = Memᴰ.tail (ih (rw b at e))

mem-in : (rs : List ℕ) (r : ℕ) → Memᴰ r rs → is_in_rows rs r ≡ true
mem-in [] r m = absurd (Memᴰ.not-nil m)
mem-in (q ∷ rs) r m = go (Memᴰ.cases_cons m) (mem-in rs r)
  where
    go : (r ≡ q) ⊎ Memᴰ r rs → (Memᴰ r rs → is_in_rows rs r ≡ true) → (eqb q r || is_in_rows rs r) ≡ true
    go (inl e) ih = rw (eq-eqb q r (sym e))
    go (inr o) ih = rw (ih o) (or-true (eqb q r))

-- the rows below n that have f: those that have it
in_rows : (f : ℕ → Bool) (n r : ℕ) → (f r ≡ true → r < n) → is_in_rows (rows_below f n) r ≡ f r
in_rows f n r low =
    same_truth (is_in_rows (rows_below f n) r) (f r) (λ e. (rows-mem f n r (in_mem (rows_below f n) r e)).1)
    (λ e. mem-in (rows_below f n) r (mem-rows f n r (low e) e))

module _ (mk : ℕ → Change) (own : (q : ℕ) → (mk q).row ≡ q) where
  map-names : (rs : List ℕ) (r : ℕ) → names (map mk rs) r ≡ is_in_rows rs r
  map-names [] r = refl
  map-names (q ∷ rs) r = rw (own q, map-names rs r)

  map-naming : (rs : List ℕ) (r : ℕ) → last_naming (map mk rs) r ≡ cond (is_in_rows rs r) (some (mk r).flips) none
  map-naming [] r = refl
  map-naming (q ∷ rs) r = rw (map-naming rs r, own q) (go (is_in_rows rs r) (eq-cases q r))
    where
      go : (b : Bool) → (q ≡ r) ⊎ (q ≡ r → ⊥)
          → or_else (cond b (some (mk r).flips) none) (cond (eqb q r) (some (mk q).flips) none)
          ≡ cond (eqb q r || b) (some (mk r).flips) none
      go true (inl e) = rw (eq-eqb q r e)
      go true (inr d) = rw (ne_eqb q r d)
      go false (inl e) = rw (eq-eqb q r e, e)
      go false (inr d) = rw (ne_eqb q r d)

-- the record of a tidy
abbrev pub tidy_of : Log → ℕ → ℕ → ℕ → Record
tidy_of log rows s v = record { kind = tidies; rows = rows; changes = tidy_changes log s v }

-- ---- the flip sets after a tidy of v at s

module _ (log : Log) (ch : Chain) (s v : ℕ) (fresh : stale log ch s v ≡ false) where
  fresh-parts : ((newest ch).stamp ≤ s) × (some_change (λ c. moves log s v c.row) (changes_of (above log s)) ≡ false)
      × (some_change (λ c. bit c.flips v) (changes_of (above log s)) ≡ false)
  fresh-parts =
      let p = or_parts (ltb s (newest ch).stamp || some_change (λ c. moves log s v c.row) (changes_of (above log s))) _ fresh in
      let q = or_parts (ltb s (newest ch).stamp) _ p.0 in
      (ltb-false s (newest ch).stamp q.0, q.1, p.1)

  -- no record above s names row r, or a last one does
  abbrev Later : ℕ → Type 0
  Later r = (last_naming (changes_of (above log s)) r ≡ none) ⊎ ((m : ℕ) × (last_naming (changes_of (above log s)) r ≡ some m))

  -- a row named above s did not move, and its set has no v now: whether a row's set has v has not changed
  same_bit : (r : ℕ) → bit (flip_set log (stamp_of log) r) v ≡ moves log s v r
  same_bit r = go (option_cases (last_naming (changes_of (above log s)) r))
    where
      go : Later r → bit (flip_set log (stamp_of log) r) v ≡ moves log s v r
      go (inl e) = rw (flip_set-kept log s r e)
      go (inr p) =
          let f = last-fails (λ c. moves log s v c.row) (changes_of (above log s)) r p.0 fresh-parts.1 p.1 in
          rw (f, flip_set-since log s r, p.1)
          (last-fails (λ c. bit c.flips v) (changes_of (above log s)) r p.0 fresh-parts.2 p.1)

  -- and the set of a moved row is what it was
  same_set : (r : ℕ) → moves log s v r ≡ true → flip_set log (stamp_of log) r ≡ flip_set log s r
  same_set r t = go (option_cases (last_naming (changes_of (above log s)) r))
    where
      go : Later r → flip_set log (stamp_of log) r ≡ flip_set log s r
      go (inl e) = flip_set-kept log s r e
      go (inr p) = absurd (clash t (last-fails (λ c. moves log s v c.row) (changes_of (above log s)) r p.0 fresh-parts.1 p.1))

  module _ (low : (r : ℕ) → moves log s v r ≡ true → r < max_rows) (rows : ℕ) where
    pub tidy-naming : (r : ℕ) → last_naming (tidy_changes log s v) r ≡ cond (moves log s v r) (some (clear_bit (flip_set log s r) v)) none
    unfolding tidy_changes moved
    tidy-naming r =
        map-naming (tidy_change log s v) (λ q. refl) (rows_below (moves log s v) max_rows) r ∙ rw (in_rows (moves log s v) max_rows r (low r))

    -- every set loses v, and nothing else
    tidy-sets : (r w : ℕ)
        → bit (flip_set (grown log (tidy_of log rows s v)) (suc (stamp_of log)) r) w ≡ (not (eqb v w) && bit (flip_set log (stamp_of log) r) w)
    tidy-sets r w = rw (flip_set-new log (tidy_of log rows s v) r, tidy-naming r) (go (bool_cases (moves log s v r)))
      where
        kept : (v ≡ w) ⊎ (v ≡ w → ⊥) → moves log s v r ≡ false
            → bit (flip_set log (stamp_of log) r) w ≡ (not (eqb v w) && bit (flip_set log (stamp_of log) r) w)
        kept (inl e) t = rw (← e, eq-eqb v v refl) (same_bit r ∙ t)
        kept (inr d) t = rw (ne_eqb v w d)

        go : (moves log s v r ≡ true) ⊎ (moves log s v r ≡ false)
            → bit (Option.get_or (cond (moves log s v r) (some (clear_bit (flip_set log s r) v)) none) (flip_set log (stamp_of log) r)) w
            ≡ (not (eqb v w) && bit (flip_set log (stamp_of log) r) w)
        go (inl t) = rw (t, same_set r t) (bit-clear (flip_set log s r) v w)
        go (inr t) = rw t (kept (eq-cases v w) t)

-- ---- the whole index after a tidy

module _ (C : ℕ) (col : Column) (rows : ℕ) (log : Log) (chains : List Chain) (h : List Event) (c : Core C col rows log chains h)
    (s : ℕ) (old : s ≤ length h) (v : ℕ) (v_low : v < C) (fresh : stale log (chain chains v) s v ≡ false) where
  -- the versions of v before
  abbrev ch : Chain
  ch = chain chains v

  a : Agrees log ch v col h
  a = c.agrees v v_low

  unmoved : (r : ℕ) → length (column_after col h s) ≤ r → moves log s v r ≡ false
  unmoved r = moves-none log ch v col h a s r old

  low : (r : ℕ) → moves log s v r ≡ true → r < max_rows
  low r t =
      ⊎_elim (λ (l : r < length (column_after col h s)). omega (arith, columns-fit C col rows log h c.logged s))
      (λ (l : length (column_after col h s) ≤ r). absurd (clash t (unmoved r l))) (lt-cases r (length (column_after col h s)))

  -- v's rows are now as they were at s
  agree : (r : ℕ) → holds (cell (column_after col h s) r) v ≡ holds (cell (replay col h) r) v
  agree r =
      let n = version-newest ch s (fresh-parts log ch s v fresh).0 in
      rw (← (right-now log ch v col h a c.logged.pace r), ← (a.right s r old), n, same_bit log ch s v fresh r)

  -- the record and the version of the tidy
  abbrev x : Record
  x = tidy_of log rows s v

  abbrev y : Version
  y = record { stamp = suc (stamp_of log); vector = queried log ch s v }

  tidy-logged : Logged C col rows (grown log x) (h ++ (tidied v (moved log s v) ∷ []))
  unfolding tidy_changes
  tidy-logged =
      grow-logged C col rows log h c.logged x (tidied v (moved log s v))
      record {
        next-rows = c.logged.rows-now;
        next-fit = c.logged.rows_fit;
        next-valued = valued-now C col rows log h c.logged;
        next-within =
            λ r l. tidy-naming log ch s v fresh low rows r ∙ rw (unmoved r (omega (arith, column-grows col h s, c.logged.rows-now)));
        next-seen = λ r l. map-names (tidy_change log s v) (λ q. refl) (moved log s v) r;
      }

  tidy-agrees : (w : ℕ) → w < C → Agrees (grown log x) (chain (set chains v (y ∷ ch)) w) w col (h ++ (tidied v (moved log s v) ∷ []))
  tidy-agrees w l = go (eq-cases w v)
    where
      go : (w ≡ v) ⊎ (w ≡ v → ⊥) → Agrees (grown log x) (chain (set chains v (y ∷ ch)) w) w col (h ++ (tidied v (moved log s v) ∷ []))
      go (inl e) =
          rw (e, get_or-set_same chains v (y ∷ ch) [] (omega (arith, c.width)))
          (agrees-renewed log ch v col h a c.logged.pace x (tidied v (moved log s v)) (queried log ch s v) (eq-eqb v v refl)
          (λ r. tidy-sets log ch s v fresh low rows r v ∙ rw (eq-eqb v v refl)) (λ r. queried-is log ch v col h a s r old ∙ agree r))
      go (inr d) =
          let o : eqb v w ≡ false = ne_eqb v w (λ e. d (sym e)) in
          rw (get_or-set_other chains v w (y ∷ ch) [] d)
          (agrees-kept log (chain chains w) w col h (c.agrees w l) c.logged.pace x (tidied v (moved log s v)) o
          (λ r. tidy-sets log ch s v fresh low rows r w
          ∙ rw o (turn-none (bit (flip_set log (stamp_of log) r) w) (holds (cell (replay col h) r) w))))

  pub tidy-keeps : Core C col rows (grown log (tidy_of log rows s v))
      (set chains v (record { stamp = suc (stamp_of log); vector = queried log (chain chains v) s v } ∷ chain chains v))
      (h ++ (tidied v (moved log s v) ∷ []))
  tidy-keeps = record { logged = tidy-logged; width = length-set chains v (y ∷ ch) ∙ c.width; agrees = tidy-agrees }
