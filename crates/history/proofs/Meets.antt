-- What the cells say is what the rules say, in all undamaged tables: version, flips, query, span, flip set and read.
use mathlib.Core.Path.{◌≡◌, sym, ap, ap₂, ◌∙◌}
use mathlib.Core.Bool.{Bool, true, cond}
use mathlib.Core.List.{List}
use Prim.Native.Nat.{ℕ, suc, ◌≤◌, ◌<◌}
use native.Mathlib.Omega.{arith}
use lib.Dec.{eqb}
use Rattle.bits.proofs.AnyLaws.{any-ext}
use Rattle.bits.specs.Bit.{xorb, bit}
use Rattle.bits.specs.Rows.{rows_of}
use Rattle.bits.proofs.RowLaws.{rows_ext, count-ext, smallest-ext}
use Rattle.bits.specs.Vec.{vec}
use Rattle.bits.proofs.VecLaws.{vec-ext}
use Rattle.bits.proofs.VecOps.{rows_of-vec}
use Rattle.bits.specs.Words.{bit_at}
use Rattle.rules.specs.Limits.{max_rows}
use Rattle.rules.specs.State.{Change, Version, Chain, chain}
use Rattle.rules.specs.Log.{between, changes_of, last_naming, or_empty, flip_set}
use Rattle.rules.specs.Versions.{version_at, flipped, queried, flip_count, spanned, spanned_rows, read_at}
use Rattle.rules.specs.Tidy.{moves, moved}
use Rattle.rules.proofs.LogLaws.{version-before}
use Rattle.tables.specs.Cells.{Tables, values_in, stamp_in, slots_in, slot_stamp, slot_words, head_of, end_at}
use Rattle.tables.specs.Meaning as cells
use Rattle.tables.specs.Meaning.{meaning}
use Rattle.tables.specs.Damage.{sound}
use Rattle.tables.proofs.Facts.{parts}
use Rattle.tables.proofs.Slots.{each-head}
use Rattle.tables.proofs.Chains.{version-stamp, version-vector}
use Rattle.tables.proofs.Means.{chain-means, between-means, up_to-means}
use Rattle.history.specs.Version.{slot_seen, base_seen}
use Rattle.history.specs.Last.{last_set}
use Rattle.history.specs.Flips.{flipped_in}
use Rattle.history.specs.Query.{front_filled, queried_since, count_since, scratch_since, queried_at, found_at, scratch_at}
use Rattle.history.specs.Span.{spanned_at}
use Rattle.history.specs.Read.{read_cells}
use Rattle.history.proofs.VersionLaws.{seen-le, seen-version}

module _ (t : Tables) (good : sound t ≡ true) where
  -- ---- the version of a value

  pub head-used : (v : ℕ) → v < values_in t.clock → head_of t.heads v < slots_in t.clock
  head-used v below = (each-head t.clock t.slots t.heads (parts t good).heads-fit v below).head-low

  pub seen-used : (s v : ℕ) → v < values_in t.clock → slot_seen t.slots t.heads s v < slots_in t.clock
  seen-used s v below = omega (arith, seen-le t.slots t.heads s v, head-used v below)

  -- the slot seen has the rules' version: its stamp, and its vector
  pub version-meets : (s v : ℕ) → v < values_in t.clock
      → version_at (chain (meaning t).chains v) s ≡ cells.version_at t.slots t.words (slot_seen t.slots t.heads s v)
  version-meets s v below =
      ap (λ (c : Chain). version_at c s) (chain-means t v below)
      ∙ seen-version t.clock t.slots t.words s (parts t good).slots-fit t.heads v (head-used v below)

  pub stamp-meets : (s v : ℕ) → v < values_in t.clock
      → slot_stamp t.slots (slot_seen t.slots t.heads s v) ≡ (version_at (chain (meaning t).chains v) s).stamp
  stamp-meets s v below =
      sym (ap (λ (x : Version). x.stamp) (version-meets s v below)
      ∙ version-stamp t.slots t.words (slot_seen t.slots t.heads s v))

  pub vector-meets : (s v r : ℕ) → v < values_in t.clock
      → bit_at (slot_words t.words (slot_seen t.slots t.heads s v)) r ≡ (version_at (chain (meaning t).chains v) s).vector r
  vector-meets s v r below =
      sym
      (ap (λ (x : Version). x.vector r) (version-meets s v below)
      ∙ ap (λ (f : ℕ → Bool). f r) (version-vector t.slots t.words (slot_seen t.slots t.heads s v)))

  pub seen-old : (s v : ℕ) → v < values_in t.clock → slot_stamp t.slots (slot_seen t.slots t.heads s v) ≤ s
  seen-old s v below = omega (arith, stamp-meets s v below, version-before (chain (meaning t).chains v) s)

  -- ---- the flip set of a row

  module _ (s : ℕ) (low : s ≤ stamp_in t.clock) where
    pub flip_set-meets : (r : ℕ) → last_set t.changes 0 (end_at t.log s) r ≡ flip_set (meaning t).log s r
    unfolding last_set flip_set
    flip_set-meets r = ap (λ (cs : List Change). or_empty (last_naming cs r)) (sym (up_to-means t (parts t good).records-fit s low))

    -- the rows that a tidy moves
    pub moves-meets : (v r : ℕ) → flipped_in t.changes 0 (end_at t.log s) v r ≡ moves (meaning t).log s v r
    unfolding flipped_in
    moves-meets v r = ap (λ (m : ℕ). bit m v) (flip_set-meets r)

    pub moved-meets : (v : ℕ) → rows_of (vec (flipped_in t.changes 0 (end_at t.log s) v) 32) ≡ moved (meaning t).log s v
    unfolding moved max_rows
    moved-meets v =
        rows_of-vec (flipped_in t.changes 0 (end_at t.log s) v) 32
        ∙ rows_ext (flipped_in t.changes 0 (end_at t.log s) v) (moves (meaning t).log s v) 2048 (λ r l. moves-meets v r)

    -- ---- the query of a value

    module _ (v : ℕ) (below : v < values_in t.clock) where
      pub flipped-meets : (r : ℕ) → flipped_in t.changes (base_seen t.slots t.heads t.log s v).from (end_at t.log s) v r
          ≡ flipped (meaning t).log (chain (meaning t).chains v) s v r
      unfolding base_seen flipped_in last_set flipped
      flipped-meets r =
          ap (λ (cs : List Change). bit (or_empty (last_naming cs r)) v)
          (sym (between-means t (parts t good).records-fit (slot_stamp t.slots (slot_seen t.slots t.heads s v)) s
          (seen-old s v below) low)
          ∙ ap (λ (b : ℕ). changes_of (between (meaning t).log b s)) (stamp-meets s v below))

      pub queried-meets : (r : ℕ) → queried_at t.slots t.words t.heads t.log t.changes s v r
          ≡ queried (meaning t).log (chain (meaning t).chains v) s v r
      unfolding queried_at queried_since base_seen queried
      queried-meets r = ap₂ xorb (vector-meets s v r below) (flipped-meets r)

      pub count_meets : (found_at t.slots t.heads t.log t.changes s v).flips
          ≡ flip_count (meaning t).log (chain (meaning t).chains v) s v
      unfolding found_at count_since max_rows
      count_meets =
          count-ext (flipped_in t.changes (base_seen t.slots t.heads t.log s v).from (end_at t.log s) v)
          (flipped (meaning t).log (chain (meaning t).chains v) s v) 2048 (λ r l. flipped-meets r)

      pub scratch-meets : (scratch : List ℕ) → scratch_at t.slots t.words t.heads t.log t.changes scratch s v
          ≡ cond (eqb (flip_count (meaning t).log (chain (meaning t).chains v) s v) 0) scratch
          (front_filled (queried (meaning t).log (chain (meaning t).chains v) s v) scratch)
      unfolding scratch_at scratch_since front_filled found_at queried_at
      scratch-meets scratch = rw (count_meets, vec-ext _ _ 32 (λ r l. queried-meets r))

    -- ---- the query of a span of values

    module _ (a b : ℕ) (below : b < values_in t.clock) where
      pub spanned-meets : (r : ℕ) → spanned_at t.slots t.words t.heads t.log t.changes s a b r
          ≡ spanned (meaning t).log (meaning t).chains s a b r
      unfolding spanned_at spanned
      spanned-meets r =
          any-ext (λ v. queried_at t.slots t.words t.heads t.log t.changes s v r)
          (λ v. queried (meaning t).log (chain (meaning t).chains v) s v r) a (suc b) (λ v h l. queried-meets v (omega arith) r)

      pub span-meets : rows_of (vec (spanned_at t.slots t.words t.heads t.log t.changes s a b) 32)
          ≡ spanned_rows (meaning t).log (meaning t).chains s a b
      unfolding max_rows
      span-meets =
          rows_of-vec (spanned_at t.slots t.words t.heads t.log t.changes s a b) 32
          ∙ rows_ext (spanned_at t.slots t.words t.heads t.log t.changes s a b)
          (spanned (meaning t).log (meaning t).chains s a b) 2048 (λ r l. spanned-meets r)

  -- ---- the read of a row

  module _ (s : ℕ) (low : s ≤ stamp_in t.clock) (row : ℕ) where
    pub read_meets : read_cells t.slots t.words t.heads t.log t.changes (values_in t.clock) s row
        ≡ read_at (meaning t).values (meaning t).log (meaning t).chains s row
    unfolding read_cells read_at meaning
    read_meets =
        smallest-ext (λ v. queried_at t.slots t.words t.heads t.log t.changes s v row)
        (λ v. queried (meaning t).log (chain (meaning t).chains v) s v row) (values_in t.clock) (λ v l. queried-meets s low v l row)
