-- The rules' conditions on changes, records, versions and entries, over stretches of the cells that have them.
use mathlib.Core.Path.{◌≡◌, sym, ap, ◌∙◌}
use mathlib.Core.Bool.{Bool, true, false, cond}
use mathlib.Core.Option.{none, some}
use mathlib.Core.List.{List, [], ◌∷◌, ◌++◌}
use mathlib.Core.Logic.{◌⊎◌, inl, inr}
use Prim.Native.Nat.{ℕ, zero, suc, ◌+◌, ◌-◌, ◌^◌, ◌≤◌, ◌<◌}
use native.Mathlib.Nat.{pos_of_ne-zero}
use native.Mathlib.Omega.{arith}
use borrow.Author.Tests.{eq-eqb, ne_eqb}
use lib.ListN.{get_or}
use Rattle.bits.proofs.Cases.{eq-cases}
use Rattle.rules.specs.State.{Change, Log, Version, Chain, Entry, alter, add}
use Rattle.rules.specs.Log as log
use Rattle.rules.specs.Lists.{lists}
use Rattle.rules.proofs.Invariant.{ChangesFit, LogFits, Falls, VectorsFit, Within, EntriesFit, EachOnce}
use Rattle.tables.specs.declared.session.Session.{Session}
use Rattle.tables.specs.Cells.{values_in, first_in, stamp_in, rows_in, slots_in, slot_stamp, slot_link, rows_in_log, end_at}
use Rattle.tables.specs.Stretch.{stretch}
use Rattle.tables.specs.Meaning.{change_at, record_at, version_at, chain_from, target_of, entry_of, entry_at}
use Rattle.tables.specs.Damage.{records_fit, changes_fit, slots_fit}
use Rattle.tables.proofs.Stretch.{stretch-none, stretch-front, stretch-join}
use Rattle.tables.proofs.Facts.{ChangeFacts, each-record, each-change, last-rows}
use Rattle.tables.proofs.Slots.{link-falls, link-used, unlinked-old, link-older}
use Rattle.tables.proofs.Sessions.{EntryCases, OpenFacts}
use Rattle.tables.proofs.Chains.{version-stamp, chain-none, chain-end, chain-on}

-- ---- changes

-- a stretch of changes fits where each of its places does, and the other way round
pub changes-fit : (changes : List ℕ) (C n : ℕ) (k a b : ℕ) → b ≡ a + k → ((p : ℕ) → a ≤ p → p < b → ChangeFacts changes C n p)
    → ChangesFit C n (stretch (change_at changes) a b)
changes-fit changes C n zero a b e h = rw (stretch-none (change_at changes) a b (omega arith)) tt
changes-fit changes C n (suc k) a b e h =
    let f = h a (omega arith) (omega arith) in
    rw (stretch-front (change_at changes) a b (omega arith))
    (f.row_low, f.set-low, changes-fit changes C n k (suc a) b (omega arith) (λ p l m. h p (omega arith) m))

mid-fits : (C n : ℕ) (xs : List Change) (y : Change) (ys : List Change) → ChangesFit C n (xs ++ (y ∷ ys))
    → (y.row < n) × (y.flips < 2 ^ C)
mid-fits C n [] y ys h = (h.0, h.1)
mid-fits C n (x ∷ xs) y ys h = mid-fits C n xs y ys h.2

pub changes-fit-at : (changes : List ℕ) (C n a b : ℕ) → ChangesFit C n (stretch (change_at changes) a b) → (p : ℕ) → a ≤ p → p < b
    → ChangeFacts changes C n p
changes-fit-at changes C n a b h p l m =
    let f = mid-fits C n (stretch (change_at changes) a p) (change_at changes p) (stretch (change_at changes) (suc p) b)
    (rw (← (stretch-front (change_at changes) p b m), stretch-join (change_at changes) a p b l (omega arith)) h) in
    record { row_low = f.0; set-low = f.1 }

-- ---- records

module _ (c log changes : List ℕ) (p : records_fit c log ≡ true) (q : changes_fit c log changes ≡ true) where
  -- the records from stamp a on
  pub records-fit : (k a : ℕ) → a + k ≡ stamp_in c
      → LogFits (values_in c) (rows_in_log (first_in c) log a) (stretch (record_at log changes) a (stamp_in c)) (rows_in c)
  unfolding record_at
  records-fit zero a e =
      let z : a ≡ stamp_in c = omega arith in
      rw (stretch-none (record_at log changes) a (stamp_in c) (omega arith)) (ap (rows_in_log (first_in c) log) z ∙ last-rows c log p)
  records-fit (suc k) a e =
      let l : a < stamp_in c = omega arith in
      let r = each-record c log p a l in
      rw (stretch-front (record_at log changes) a (stamp_in c) l) (
        r.rows-rise,
        changes-fit changes (values_in c) (rows_in_log (first_in c) log (suc a)) (end_at log (suc a) - end_at log a) (end_at log a)
            (end_at log (suc a))
            (omega (arith, r.ends-rise)) (λ j m n. each-change c log changes q a j l m n),
        records-fit k (suc a) (omega arith),
      )

-- ---- versions

falls-on : (b : ℕ) (x : Version) (ch : Chain) → x.stamp < b → Falls x.stamp ch → Falls b (x ∷ ch)
falls-on b x [] h f = absurd f
falls-on b x (y ∷ ys) h f = (h, f)

module _ (c slots words : List ℕ) (e : slots_fit c slots ≡ true) where
  -- the stamps fall along the links
  pub chain-falls : (n i b : ℕ) → i < slots_in c → i < n → slot_stamp slots i < b → Falls b (chain_from slots words n i)
  chain-falls zero i b l m h = absurd (omega arith)
  chain-falls (suc n) i b l m h =
      go (eq-cases (slot_link slots i) 0)
      (λ k. chain-falls n (slot_link slots i - 1) (slot_stamp slots i) (link-used c slots e i l k)
      (omega (arith, link-falls c slots e i l)) (link-older c slots e i l k))
    where
      go : (slot_link slots i ≡ 0) ⊎ (slot_link slots i ≡ 0 → ⊥)
          → (0 < slot_link slots i → Falls (slot_stamp slots i) (chain_from slots words n (slot_link slots i - 1)))
          → Falls b (chain_from slots words (suc n) i)
      go (inl z) ih = rw (chain-end slots words n i z, version-stamp slots words i) (h, unlinked-old c slots e i l z)
      go (inr d) ih =
          let k : 0 < slot_link slots i = pos_of_ne-zero d in
          rw (chain-on slots words n i k)
          (falls-on b (version_at slots words i) (chain_from slots words n (slot_link slots i - 1))
          (rw (version-stamp slots words i) h) (rw (version-stamp slots words i) (ih k)))

  -- what holds of the vector of each slot holds along the links
  pub chain-vectors : (first : ℕ) (lg : Log)
      → ((i : ℕ) → i < slots_in c → (r : ℕ) → log.rows_at first lg (version_at slots words i).stamp ≤ r
      → (version_at slots words i).vector r ≡ false)
      → (n i : ℕ) → i < slots_in c → VectorsFit first lg (chain_from slots words n i)
  chain-vectors first lg v zero i l = rw (chain-none slots words i) tt
  chain-vectors first lg v (suc n) i l =
      go (eq-cases (slot_link slots i) 0) (λ k. chain-vectors first lg v n (slot_link slots i - 1) (link-used c slots e i l k))
    where
      go : (slot_link slots i ≡ 0) ⊎ (slot_link slots i ≡ 0 → ⊥)
          → (0 < slot_link slots i → VectorsFit first lg (chain_from slots words n (slot_link slots i - 1)))
          → VectorsFit first lg (chain_from slots words (suc n) i)
      go (inl z) ih = rw (chain-end slots words n i z) (v i l, tt)
      go (inr d) ih = let k : 0 < slot_link slots i = pos_of_ne-zero d in rw (chain-on slots words n i k) (v i l, ih k)

-- ---- entries

-- what an entry's cells mean: an insert, or a row with its target
pub entry-add : (at to : ℕ) → at ≡ 65535 → entry_of at to ≡ add to
entry-add at to e = ap (λ (b : Bool). cond b (add to) (alter at (target_of to))) (eq-eqb at 65535 e)

pub entry-alter : (at to : ℕ) → (at ≡ 65535 → ⊥) → entry_of at to ≡ alter at (target_of to)
entry-alter at to n = ap (λ (b : Bool). cond b (add to) (alter at (target_of to))) (ne_eqb at 65535 n)

pub target-some : (to : ℕ) → (to ≡ 255 → ⊥) → target_of to ≡ some to
target-some to n = ap (λ (b : Bool). cond b none (some to)) (ne_eqb to 255 n)

pub target_none : (to : ℕ) → to ≡ 255 → target_of to ≡ none
target_none to e = ap (λ (b : Bool). cond b none (some to)) (eq-eqb to 255 e)

target_fits : (C to : ℕ) → C ≤ 32 → (to < C) ⊎ (to ≡ 255) → Within C (target_of to)
target_fits C to h (inl l) = rw (target-some to (λ e. omega arith)) l
target_fits C to h (inr e) = rw (target_none to e) tt

-- one entry before others
entry-fits : (C n at to : ℕ) (es : List Entry) → C ≤ 32 → n ≤ 2048 → EntryCases C n at to → EntriesFit C n es
    → EntriesFit C n (entry_of at to ∷ es)
entry-fits C n at to es h k (inl p) f = rw (entry-alter at to (λ e. omega (arith, p.0))) (p.0, target_fits C to h p.1, f)
entry-fits C n at to es h k (inr p) f = rw (entry-add at to p.0) (p.1, f)

-- an entry that does not name r
lists-other : (at to r : ℕ) (es : List Entry) → ((at ≡ 65535 → ⊥) → at ≡ r → ⊥) → lists es r ≡ false → lists (entry_of at to ∷ es) r ≡ false
lists-other at to r es h e = go (eq-cases at 65535)
  where
    go : (at ≡ 65535) ⊎ (at ≡ 65535 → ⊥) → lists (entry_of at to ∷ es) r ≡ false
    go (inl q) = rw (entry-add at to q) e
    go (inr n) = rw (entry-alter at to n, ne_eqb at r (h n)) e

once-on : (at to : ℕ) (es : List Entry) → ((at ≡ 65535 → ⊥) → lists es at ≡ false) → EachOnce es → EachOnce (entry_of at to ∷ es)
once-on at to es h o = go (eq-cases at 65535)
  where
    go : (at ≡ 65535) ⊎ (at ≡ 65535 → ⊥) → EachOnce (entry_of at to ∷ es)
    go (inl q) = rw (entry-add at to q) o
    go (inr n) = rw (entry-alter at to n) (h n, o)

module _ (values first stamp : ℕ) (log : List ℕ) (x : Session) (f : OpenFacts values first stamp log x) where
  -- the entries from a on
  pub entries_fit : values ≤ 32 → x.rows.0 ≤ 2048 → (k a : ℕ) → a + k ≡ x.count
      → EntriesFit values x.rows.0 (stretch (entry_at x) a x.count)
  unfolding entry_at
  entries_fit h g zero a e = rw (stretch-none (entry_at x) a x.count (omega arith)) tt
  entries_fit h g (suc k) a e =
      rw (stretch-front (entry_at x) a x.count (omega arith))
      (entry-fits values x.rows.0 (get_or x.at a 0) (get_or x.to a 0) (stretch (entry_at x) (suc a) x.count) h g
      (f.entry-cases a (omega arith))
      (entries_fit h g k (suc a) (omega arith)))

  -- no entry from b on names the row of entry a
  not_listed : (a : ℕ) → a < x.count → (k b : ℕ) → b + k ≡ x.count → a < b
      → lists (stretch (entry_at x) b x.count) (get_or x.at a 0) ≡ false
  unfolding entry_at
  not_listed a l zero b e m = rw (stretch-none (entry_at x) b x.count (omega arith))
  not_listed a l (suc k) b e m =
      rw (stretch-front (entry_at x) b x.count (omega arith))
      (lists-other (get_or x.at b 0) (get_or x.to b 0) (get_or x.at a 0) (stretch (entry_at x) (suc b) x.count)
      (λ n q. f.listed-once b a (omega arith) m n (sym q)) (not_listed a l k (suc b) (omega arith) (omega arith)))

  pub entries-once : (k a : ℕ) → a + k ≡ x.count → EachOnce (stretch (entry_at x) a x.count)
  unfolding entry_at
  entries-once zero a e = rw (stretch-none (entry_at x) a x.count (omega arith)) tt
  entries-once (suc k) a e =
      rw (stretch-front (entry_at x) a x.count (omega arith))
      (once-on (get_or x.at a 0) (get_or x.to a 0) (stretch (entry_at x) (suc a) x.count)
      (λ n. not_listed a (omega arith) k (suc a) (omega arith) (omega arith))
      (entries-once k (suc a) (omega arith)))
