-- One slot more, at the head of a value, one record later: the slots before it as they were, its cells and its words, the
-- sentences of "Damaged tables" on slots, heads and vectors, and the chains: that of the value has the new version in front.
use mathlib.Core.Path.{◌≡◌, refl, sym, ◌∙◌, ap, ap₂}
use mathlib.Core.Bool.{true}
use mathlib.Core.List.{List, append_assoc, [], ◌∷◌}
use mathlib.Core.Logic.{◌⊎◌, inl, inr, ◌≢◌}
use Prim.Native.Nat.{ℕ, ◌+◌, ◌-◌, ◌≤◌, ◌<◌, ◌*◌}
use native.Mathlib.Omega.{arith}
use native.Mathlib.Numerals.{add-one}
use lib.ListN.{length, take, drop, set}
use lib.Seq.{sets, sets-eq}
use Rattle.bits.proofs.Cases.{lt-cases, eq-cases}
use Rattle.bits.specs.Tail.{tail_clear}
use Rattle.bits.specs.Part.{part, put_part}
use Rattle.bits.proofs.PartLaws.{part_same, part-other}
use Rattle.bits.specs.Tab.{tab}
use Rattle.bits.specs.Words.{bit_at}
use Rattle.rules.specs.State.{Change, Version, Chain}
use Rattle.rules.proofs.Invariant.{ChangesFit}
use Rattle.tables.specs.Cells.{Tables, tables, changes_in, values_in, first_in, stamp_in, slots_in, slot_value, slot_stamp, slot_link, slot_words}
use Rattle.tables.specs.Cells.{rows_in_log, head_of}
use Rattle.tables.specs.Meaning.{version_at, chain_from, chain_at}
use Rattle.tables.specs.Damage.{slots_fit, heads_fit, vectors_fit}
use Rattle.tables.specs.Stores.{put_slot, put_head}
use Rattle.tables.proofs.Slots.{FirstSlot, LaterSlot, each_first, each-later, slots-made, slot-stamp-low, HeadFacts, heads-made}
use Rattle.tables.proofs.Slots.{each-vector, vectors-made, each-head, link-falls}
use Rattle.tables.proofs.Stores.{length-record, put-value, put-stamp, put-link, kept-value, kept-stamp, kept-link, put-head, kept-head}
use Rattle.tables.proofs.Stretch.{tab-set}
use Rattle.tables.proofs.Chains.{chain-on, chain_same}
use Rattle.tables.proofs.Facts.{room-made, whole, clock-facts, clock-limits}
use Rattle.outcomes.specs.Stores.{put_changes}
use Rattle.outcomes.proofs.StoreLaws.{length-changes}
use Rattle.follow.specs.Good.{Good}
use Rattle.follow.proofs.Good.{good-room, good-parts}
use Rattle.follow.proofs.NewRecord.{clock-later, records-later, grown-changes, sessions-later, new_log, NextRecord, rows-old}

-- the slots in use as they were
pub record SameSlots (used : ℕ) (slots words slots' words' : List ℕ) : Type 0 where
  pub value_same : (i : ℕ) → i < used → slot_value slots' i ≡ slot_value slots i
  pub stamp-same : (i : ℕ) → i < used → slot_stamp slots' i ≡ slot_stamp slots i
  pub link-same : (i : ℕ) → i < used → slot_link slots' i ≡ slot_link slots i
  pub words_same : (i : ℕ) → i < used → slot_words words' i ≡ slot_words words i

pub same-slots : (used : ℕ) (slots words : List ℕ) → SameSlots used slots words slots words
same-slots used slots words =
    record { value_same = λ i l. refl; stamp-same = λ i l. refl; link-same = λ i l. refl; words_same = λ i l. refl }

module _ {used : ℕ} {slots words slots' words' : List ℕ} (same : SameSlots used slots words slots' words') where
  -- the same versions
  pub version-same : (i : ℕ) → i < used → version_at slots' words' i ≡ version_at slots words i
  unfolding version_at
  version-same i l = rw (same.stamp-same i l, same.words_same i l)

  first-same : (i : ℕ) → i < used → FirstSlot slots i → FirstSlot slots' i
  first-same i l f = record {
    own_value = same.value_same i l ∙ f.own_value;
    no-stamp = same.stamp-same i l ∙ f.no-stamp;
    no-link = same.link-same i l ∙ f.no-link;
  }

  later_same : (values stamp stamp' : ℕ) → stamp ≤ stamp' → (i : ℕ) → i < used → LaterSlot values stamp slots i
      → LaterSlot values stamp' slots' i
  later_same values stamp stamp' h i l f =
      let link = same.link-same i l in
      let j = slot_link slots i - 1 in
      let m : j < used = omega (arith, f.linked, f.link-low) in
      record {
        value_low = omega (arith, same.value_same i l, f.value_low);
        stamp-low = omega (arith, same.stamp-same i l, f.stamp-low);
        linked = omega (arith, link, f.linked);
        link-low = omega (arith, link, f.link-low);
        link-value = rw link (same.value_same j m ∙ f.link-value ∙ sym (same.value_same i l));
        link-stamp = rw link (omega (arith, same.stamp-same j m, same.stamp-same i l, f.link-stamp));
      }

module _ {c c' log slots words slots' words' : List ℕ} {kind rows used end : ℕ} (k : NextRecord c c' log kind rows used end)
    (same : SameSlots (slots_in c) slots words slots' words') (e : slots_fit c slots ≡ true) where
  pub slots-later : values_in c ≤ slots_in c → ((i : ℕ) → slots_in c ≤ i → i < used → LaterSlot (values_in c) (stamp_in c + 1) slots' i)
      → slots_fit c' slots' ≡ true
  slots-later b new =
      slots-made c' slots'
      (λ i h l. let h' : i < values_in c = omega (arith, k.later.values-kept) in
      first-same same i (omega arith) (each_first c slots e i h' (omega arith)))
      (λ i h l. rw (k.later.values-kept, k.later.stamp-next)
      (later i (omega (arith, k.later.values-kept)) (omega (arith, k.later.slots-now)) (lt-cases i (slots_in c))))
    where
      later : (i : ℕ) → values_in c ≤ i → i < used → (i < slots_in c) ⊎ (slots_in c ≤ i) → LaterSlot (values_in c) (stamp_in c + 1) slots' i
      later i h l (inl o) =
          later_same same (values_in c) (stamp_in c) (stamp_in c + 1) (omega arith) i o (each-later c slots e i h o)
      later i h l (inr o) = new i o l

  pub heads-later : (heads' : List ℕ) → ((v : ℕ) → v < values_in c → HeadFacts used slots' heads' v) → heads_fit c' slots' heads' ≡ true
  heads-later heads' h = heads-made c' slots' heads' (λ v l. rw k.later.slots-now (h v (omega (arith, k.later.values-kept))))

  pub vectors-later : vectors_fit c log slots words ≡ true
      → ((i : ℕ) → slots_in c ≤ i → i < used
      → tail_clear (slot_words words' i) (rows_in_log (first_in c') (new_log c log kind rows end) (slot_stamp slots' i)) ≡ true)
      → vectors_fit c' (new_log c log kind rows end) slots' words' ≡ true
  vectors-later f new =
      vectors-made c' (new_log c log kind rows end) slots' words' (λ i l. go i (omega (arith, k.later.slots-now)) (lt-cases i (slots_in c)))
    where
      go : (i : ℕ) → i < used → (i < slots_in c) ⊎ (slots_in c ≤ i)
          → tail_clear (slot_words words' i) (rows_in_log (first_in c') (new_log c log kind rows end) (slot_stamp slots' i)) ≡ true
      go i l (inl o) =
          rw (
            same.words_same i o,
            same.stamp-same i o,
            rows-old k (slot_stamp slots i) (slot-stamp-low c slots e i o),
          )
          (each-vector c log slots words f i o)
      go i l (inr o) = new i o l

-- ---- a part of a row of words

-- words stored one after another are a part put in its place
sets-part : (l : List ℕ) (a : ℕ) (ws : List ℕ) → a + length ws ≤ length l → sets l a ws ≡ put_part a ws l
unfolding put_part
sets-part l a ws h = sets-eq ws l a h ∙ append_assoc (take a l) ws (drop (a + length ws) l)

module _ (words : List ℕ) (k : ℕ) (ws : List ℕ) (size : length ws ≡ 32) (l : k < 96) (room : 3072 ≤ length words) where
  fits : 32 * k + length ws ≤ length words
  fits = omega arith

  -- the words of the slot, and of another
  pub words-put : slot_words (sets words (32 * k) ws) k ≡ ws
  unfolding slot_words part
  words-put =
      ap (λ (xs : List ℕ). part (32 * k) 32 xs) (sets-part words (32 * k) ws fits)
      ∙ ap (λ (n : ℕ). part (32 * k) n (put_part (32 * k) ws words)) (sym size) ∙ part_same (32 * k) ws words fits

  pub words-kept : (i : ℕ) → i < k → slot_words (sets words (32 * k) ws) i ≡ slot_words words i
  unfolding slot_words part
  words-kept i m =
      ap (λ (xs : List ℕ). part (32 * i) 32 xs) (sets-part words (32 * k) ws fits)
      ∙ part-other (32 * k) ws words fits (32 * i) 32 (inl (omega arith)) (omega arith)

-- ---- the slot after those in use

-- a slot of value v that links to the head of v
abbrev pub new_slots : List ℕ → List ℕ → List ℕ → ℕ → List ℕ
new_slots c slots heads v = put_slot slots (slots_in c) v (stamp_in c + 1) (head_of heads v + 1)

-- the words of the slot
abbrev pub new_words : List ℕ → List ℕ → List ℕ → List ℕ
new_words c words ws = sets words (32 * slots_in c) ws

-- the head of v, moved to it
abbrev pub new_heads : List ℕ → List ℕ → ℕ → List ℕ
new_heads c heads v = put_head heads v (slots_in c)

-- what there has to be for it
pub record NextSlot (c slots words heads : List ℕ) (v : ℕ) (ws : List ℕ) : Type 0 where
  pub slots-fit : slots_fit c slots ≡ true
  pub heads-fit : heads_fit c slots heads ≡ true
  pub value_low : v < values_in c
  pub slot-low : slots_in c < 96
  pub slots-room : 288 ≤ length slots
  pub words-room : 3072 ≤ length words
  pub head-room : v < length heads
  pub size : length ws ≡ 32

module _ {c slots words heads : List ℕ} {v : ℕ} {ws : List ℕ} (k : NextSlot c slots words heads v ws) where
  -- the slots before it
  pub slots_same : SameSlots (slots_in c) slots words (new_slots c slots heads v) (new_words c words ws)
  slots_same =
      let link = head_of heads v + 1 in
      record {
        value_same =
            λ i l. kept-value slots (slots_in c) v (stamp_in c + 1) link k.slot-low i (omega (arith, k.slot-low)) (λ e. omega arith);
        stamp-same =
            λ i l. kept-stamp slots (slots_in c) v (stamp_in c + 1) link k.slot-low i (omega (arith, k.slot-low)) (λ e. omega arith);
        link-same =
            λ i l. kept-link slots (slots_in c) v (stamp_in c + 1) link k.slot-low i (omega (arith, k.slot-low)) (λ e. omega arith);
        words_same = λ i l. words-kept words (slots_in c) ws k.size k.slot-low k.words-room i l;
      }

  -- its cells and its words
  new-value : slot_value (new_slots c slots heads v) (slots_in c) ≡ v
  new-value = put-value slots (slots_in c) v (stamp_in c + 1) (head_of heads v + 1) k.slot-low k.slots-room

  pub new-stamp : slot_stamp (new_slots c slots heads v) (slots_in c) ≡ stamp_in c + 1
  new-stamp = put-stamp slots (slots_in c) v (stamp_in c + 1) (head_of heads v + 1) k.slot-low k.slots-room

  pub new-link : slot_link (new_slots c slots heads v) (slots_in c) ≡ head_of heads v + 1
  new-link = put-link slots (slots_in c) v (stamp_in c + 1) (head_of heads v + 1) k.slot-low k.slots-room

  pub new-words : slot_words (new_words c words ws) (slots_in c) ≡ ws
  new-words = words-put words (slots_in c) ws k.size k.slot-low k.words-room

  -- the heads before
  head : (w : ℕ) → w < values_in c → HeadFacts (slots_in c) slots heads w
  head w l = each-head c slots heads k.heads-fit w l

  -- its sentence of "Damaged tables", and that of the heads
  pub new-slot : LaterSlot (values_in c) (stamp_in c + 1) (new_slots c slots heads v) (slots_in c)
  new-slot =
      let h = head v k.value_low in
      let z : head_of heads v + 1 - 1 ≡ head_of heads v = omega arith in
      record {
        value_low = omega (arith, new-value, k.value_low);
        stamp-low = omega (arith, new-stamp);
        linked = omega (arith, new-link);
        link-low = omega (arith, new-link, h.head-low);
        link-value = rw (new-link, z) (slots_same.value_same (head_of heads v) h.head-low ∙ h.head-value ∙ sym new-value);
        link-stamp =
            rw (new-link, z)
            (omega (
              arith,
              new-stamp,
              slots_same.stamp-same (head_of heads v) h.head-low,
              slot-stamp-low c slots k.slots-fit (head_of heads v) h.head-low,
            ));
      }

  pub new-head : (w : ℕ) → w < values_in c → HeadFacts (slots_in c + 1) (new_slots c slots heads v) (new_heads c heads v) w
  new-head w l = go (eq-cases w v)
    where
      go : (w ≡ v) ⊎ (w ≡ v → ⊥) → HeadFacts (slots_in c + 1) (new_slots c slots heads v) (new_heads c heads v) w
      go (inl e) =
          let h = put-head heads v (slots_in c) k.head-room in
          rw e (record { head-low = omega (arith, h); head-value = rw h new-value })
      go (inr d) =
          let h = kept-head heads v (slots_in c) w d in
          let o = head w l in
          record {
            head-low = omega (arith, h, o.head-low);
            head-value = rw h (slots_same.value_same (head_of heads w) o.head-low ∙ o.head-value);
          }

-- the version that the new slot holds
abbrev pub new_version : List ℕ → List ℕ → Version
new_version c ws = record { stamp = stamp_in c + 1; vector = bit_at ws }

module _ {c slots words heads : List ℕ} {v : ℕ} {ws : List ℕ} (k : NextSlot c slots words heads v ws) where
  -- from an old slot on, whatever the bounds
  old-chain : (n m i : ℕ) → i < slots_in c → i < n → i < m
      → chain_from (new_slots c slots heads v) (new_words c words ws) n i ≡ chain_from slots words m i
  old-chain =
      chain_same (slots_in c) slots words (new_slots c slots heads v) (new_words c words ws) (λ i l. link-falls c slots k.slots-fit i l)
      (slots_same k).link-same
      (version-same (slots_same k))

  -- the version of the new slot
  new-version : version_at (new_slots c slots heads v) (new_words c words ws) (slots_in c) ≡ new_version c ws
  unfolding version_at
  new-version = rw (new-stamp k, new-words k)

  -- from the new slot on: the chain of v
  chain-own : chain_at (new_slots c slots heads v) (new_words c words ws) (new_heads c heads v) v
      ≡ new_version c ws ∷ chain_at slots words heads v
  unfolding chain_at
  chain-own =
      let old = head_of heads v in
      let h = (each-head c slots heads k.heads-fit v k.value_low).head-low in
      let z : old + 1 - 1 ≡ old = omega arith in
      ap (λ (i : ℕ). chain_from (new_slots c slots heads v) (new_words c words ws) (i + 1) i) (put-head heads v (slots_in c) k.head-room)
      ∙ ap (λ (n : ℕ). chain_from (new_slots c slots heads v) (new_words c words ws) n (slots_in c)) (add-one (slots_in c))
      ∙ chain-on (new_slots c slots heads v) (new_words c words ws) (slots_in c) (slots_in c) (omega (arith, new-link k))
      ∙ ap₂ (λ (x : Version) (xs : Chain). x ∷ xs) new-version
      (ap (chain_from (new_slots c slots heads v) (new_words c words ws) (slots_in c)) (ap (λ (j : ℕ). j - 1) (new-link k) ∙ z)
      ∙ old-chain (slots_in c) (old + 1) old h h (omega arith))

  -- the chain of another value
  chain-other : (w : ℕ) → w < values_in c → w ≢ v
      → chain_at (new_slots c slots heads v) (new_words c words ws) (new_heads c heads v) w ≡ chain_at slots words heads w
  unfolding chain_at
  chain-other w l d =
      ap (λ (i : ℕ). chain_from (new_slots c slots heads v) (new_words c words ws) (i + 1) i) (kept-head heads v (slots_in c) w d)
      ∙ old-chain (head_of heads w + 1) (head_of heads w + 1) (head_of heads w) (each-head c slots heads k.heads-fit w l).head-low
      (omega arith) (omega arith)

  -- all chains
  pub chains-mean : tab (chain_at (new_slots c slots heads v) (new_words c words ws) (new_heads c heads v)) (values_in c)
      ≡ set (tab (chain_at slots words heads) (values_in c)) v (new_version c ws ∷ chain_at slots words heads v)
  chains-mean =
      tab-set [] (chain_at slots words heads) (chain_at (new_slots c slots heads v) (new_words c words ws) (new_heads c heads v)) (values_in c)
      v k.value_low chain-other
      ∙ ap (set (tab (chain_at slots words heads) (values_in c)) v) chain-own

-- ---- all tables, one record later

-- the slots, words and heads of t as they were, and of `used` slots those after them as they must be
pub record NewSlots (t : Tables) (c' log' slots' words' heads' : List ℕ) (used : ℕ) : Type 0 where
  pub same : SameSlots (slots_in t.clock) t.slots t.words slots' words'
  pub used-rise : slots_in t.clock ≤ used
  pub used-few : used ≤ 96
  pub slots-new : (i : ℕ) → slots_in t.clock ≤ i → i < used → LaterSlot (values_in t.clock) (stamp_in t.clock + 1) slots' i
  pub heads-new : (v : ℕ) → v < values_in t.clock → HeadFacts used slots' heads' v
  pub vectors-new : (i : ℕ) → slots_in t.clock ≤ i → i < used
      → tail_clear (slot_words words' i) (rows_in_log (first_in c') log' (slot_stamp slots' i)) ≡ true
  pub slots-long : length slots' ≡ length t.slots
  pub words_long : length words' ≡ length t.words
  pub heads-long : length heads' ≡ length t.heads

module _ (t : Tables) (g : Good t) where
  -- no slot more
  pub no_slot : (c' log' : List ℕ) → NewSlots t c' log' t.slots t.words t.heads (slots_in t.clock)
  no_slot c' log' =
      let p = good-parts t g in
      record {
        same = same-slots (slots_in t.clock) t.slots t.words;
        used-rise = omega arith;
        used-few = (clock-limits t.clock p.clock-fits).few-slots;
        slots-new = λ i h l. absurd (omega arith);
        heads-new = each-head t.clock t.slots t.heads p.heads-fit;
        vectors-new = λ i h l. absurd (omega arith);
        slots-long = refl;
        words_long = refl;
        heads-long = refl;
      }

  -- with a record that fits, the tables stay good
  pub later-good : {c' slots' words' heads' : List ℕ} {kind rows used end : ℕ} (k : NextRecord t.clock c' t.log kind rows used end)
      → NewSlots t c' (new_log t.clock t.log kind rows end) slots' words' heads' used → length c' ≡ length t.clock → rows ≤ 2048
      → (cs : List Change) → end ≡ changes_in t.clock + length cs → end ≤ 2048 → ChangesFit (values_in t.clock) rows cs
      → Good (tables c' slots' words' heads' (new_log t.clock t.log kind rows end) (put_changes t.changes (changes_in t.clock) cs)
      t.sessions)
  later-good {c'} {slots'} {words'} {heads'} {kind} {rows} {used} {end} k n long few cs size low fit =
      let c = t.clock in
      let r = good-room t g in
      let p = good-parts t g in
      record {
        room =
            room-made _
            (omega (arith, r, n, long, length-record t.log (stamp_in c) kind rows end, length-changes t.changes (changes_in c) cs));
        whole =
            whole _
            record {
              clock-fits = clock-later k.later p.clock-fits few k.stamp-low n.used-rise n.used-few low;
              records-fit = records-later k;
              changes-fit = grown-changes k t.changes cs size low r.changes-room p.changes-fit fit;
              slots-fit = slots-later k n.same p.slots-fit (clock-facts c p.clock-fits).slots-low n.slots-new;
              heads-fit = heads-later k n.same p.slots-fit heads' n.heads-new;
              vectors-fit = vectors-later k n.same p.slots-fit p.vectors-fit n.vectors-new;
              sessions-fit = sessions-later k t.sessions p.sessions-fit;
            };
        wide = g.wide;
      }
