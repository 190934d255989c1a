-- The records at once: what each is off by is gathered, modulo 2 ^ 32. Where that is little, the records fit.
use mathlib.Core.Path.{◌≡◌, refl, sym, ap, ◌∙◌}
use mathlib.Core.Bool.{true, ◌&&◌, ◌||◌}
use mathlib.Core.List.{List}
use mathlib.Core.Logic.{◌⊎◌, inl, inr, ⊎_elim}
use Prim.Native.Nat.{ℕ, zero, suc, ◌+◌, ◌-◌, ◌*◌, ◌%◌, ◌≤◌, ◌<◌}
use native.Mathlib.Omega.{arith}
use borrow.Author.Tests.{le-leb, lt-leb}
use lib.Bits.{bit_or, or_add_and, and_le_r, and_le_l}
use lib.Dec.{leb, eqb, ltb}
use lib.ListN.{get_or}
use Rattle.bits.proofs.Cases.{lt-cases}
use Rattle.tables.specs.Damage.{all_in, record_fits}
use Rattle.tables.proofs.Tests.{told, made}
use Rattle.tables.proofs.Facts.{kind-made, in-of}
use Rattle.record_damage.specs.Parts.{gap, Within}
use Rattle.record_damage.proofs.RecordLaws.{later-record}

-- ---- how far a number is above another

-- above it, or below it and so far off
gap-cases : (a b : ℕ) → ((b ≤ a) × (gap a b ≡ a - b)) ⊎ ((a < b) × (gap a b ≡ a + (4294967296 - b)))
unfolding gap
gap-cases a b =
    ⊎_elim (λ (h : a < b). inr (h, rw (lt-leb b a h))) (λ (h : b ≤ a). inl (h, rw (le-leb b a h))) (lt-cases a b)

-- as `wrapping_sub` has it
gap-wraps : (a b : ℕ) → a < 4294967296 → b < 4294967296 → (a + (4294967296 - b)) % 4294967296 ≡ gap a b
gap-wraps a b h l = ⊎_elim (λ p. omega arith) (λ p. omega arith) (gap-cases a b)

-- not far above: not below
gap-rises : (a b top : ℕ) → gap a b ≤ top → top < 4194304 → b < 4290772992 → (b ≤ a) × (a ≤ b + 4194304)
gap-rises a b top h l m = ⊎_elim (λ p. (p.0, omega arith)) (λ p. absurd (omega arith)) (gap-cases a b)

gap-none : (a b top : ℕ) → gap a b ≤ top → top ≡ 0 → b < 4294967296 → a ≡ b
gap-none a b top h l m = ⊎_elim (λ p. omega arith) (λ p. absurd (omega arith)) (gap-cases a b)

gap-one : (a top : ℕ) → gap a 1 ≤ top → top < 2 → (1 ≤ a) × (a ≤ 2)
gap-one a top h l = ⊎_elim (λ p. (p.0, omega arith)) (λ p. absurd (omega arith)) (gap-cases a 1)

-- ---- gathered

or-over : (a b : ℕ) → (a ≤ bit_or a b) × (b ≤ bit_or a b)
or-over a b = (omega (arith, or_add_and a b, and_le_r a b), omega (arith, or_add_and a b, and_le_l a b))

pub within_none : (g : ℕ → ℕ) (a top : ℕ) → Within g a a top
unfolding Within
within_none g a top k h l = absurd (omega arith)

pub within_more : (g : ℕ → ℕ) (a b top r : ℕ) → Within g a b top → r ≡ g b → Within g a (b + 1) (bit_or top r)
unfolding Within
within_more g a b top r w e k h l = go (lt-cases k b)
  where
    go : (k < b) ⊎ (b ≤ k) → g k ≤ bit_or top r
    go (inl m) = omega (arith, w k h m, or-over top r)
    go (inr m) = let z : k ≡ b = omega arith in let y : g k ≡ r = ap g z ∙ sym e in omega (arith, or-over top r)

-- gathered from `wrapping_sub`
pub wraps_more : (g : ℕ → ℕ) (n top a b : ℕ) → Within g 1 n top → a < 4294967296 → b < 4294967296 → g n ≡ gap a b
    → Within g 1 (n + 1) (bit_or top ((a + (4294967296 - b)) % 4294967296))
wraps_more g n top a b w h l e = within_more g 1 n top ((a + (4294967296 - b)) % 4294967296) w (gap-wraps a b h l ∙ sym e)

-- what record k + 1 is off by
abbrev pub stamp_off : List ℕ → ℕ → ℕ
stamp_off log k = gap (get_or log k 0) (k + 1)

abbrev pub kind_off : List ℕ → ℕ → ℕ
kind_off log k = gap (get_or log (512 + k) 0) 1

abbrev pub rows_off : List ℕ → ℕ → ℕ
rows_off log k = gap (get_or log (1024 + k) 0) (get_or log (1023 + k) 0)

abbrev pub end_off : List ℕ → ℕ → ℕ
end_off log k = gap (get_or log (1536 + k) 0) (get_or log (1535 + k) 0)

-- ---- numbers that rise by little each time stay small, so that none wrapped

module _ (g : ℕ → ℕ) (n top : ℕ) (few : n ≤ 512) (first : g 0 ≤ 2048) (little : top < 4194304) (w : (j : ℕ) → suc j < n → gap (g (suc j))
    (g j) ≤ top) where
  stays-low : (j : ℕ) → j < n → g j ≤ 2048 + j * 4194304
  stays-low zero h = omega arith
  stays-low (suc j) h =
      let m : g j ≤ 2048 + j * 4194304 = stays-low j (omega arith) in
      omega (arith, (gap-rises (g (suc j)) (g j) top (w j h) little (omega arith)).1)

  rises : (j : ℕ) → suc j < n → g j ≤ g (suc j)
  rises j h = (gap-rises (g (suc j)) (g j) top (w j h) little (omega (arith, stays-low j (omega arith)))).0

module _ (log : List ℕ) (n k stamps kinds rows ends : ℕ) (few : n ≤ 512) (past : n ≤ k) (s : Within (stamp_off log) 1 k stamps)
    (d : Within (kind_off log) 1 k kinds) (r : Within (rows_off log) 1 k rows) (e : Within (end_off log) 1 k ends) where
  module _ (z : stamps ≡ 0) (t : kinds < 2) (i : rows < 4194304) (o : ends < 4194304) (u : get_or log 1024 0 ≤ 2048)
      (v : get_or log 1536 0 ≤ 2048) where
    abbrev rows_of : ℕ → ℕ
    rows_of j = get_or log (1024 + j) 0

    abbrev end_of : ℕ → ℕ
    end_of j = get_or log (1536 + j) 0

    stamp-fits : (j : ℕ) → suc j < n → get_or log (suc j) 0 ≡ suc j + 1
    unfolding Within
    stamp-fits j h = gap-none (get_or log (suc j) 0) (suc j + 1) stamps (s (suc j) (omega arith) (omega arith)) z (omega arith)

    kind_fits : (j : ℕ) → suc j < n → eqb (get_or log (512 + suc j) 0) 1 || eqb (get_or log (512 + suc j) 0) 2 ≡ true
    unfolding Within
    kind_fits j h =
        let b = gap-one (get_or log (512 + suc j) 0) kinds (d (suc j) (omega arith) (omega arith)) t in
        kind-made (get_or log (512 + suc j) 0)
        (⊎_elim (λ l. inl (omega arith)) (λ l. inr (omega arith)) (lt-cases (get_or log (512 + suc j) 0) 2))

    rows_step : (j : ℕ) → suc j < n → gap (rows_of (suc j)) (rows_of j) ≤ rows
    unfolding Within
    rows_step j h = let q : 1023 + suc j ≡ 1024 + j = omega arith in
        rw q at (r (suc j) (omega arith) (omega arith))

    end_step : (j : ℕ) → suc j < n → gap (end_of (suc j)) (end_of j) ≤ ends
    unfolding Within
    end_step j h = let q : 1535 + suc j ≡ 1536 + j = omega arith in
        rw q at (e (suc j) (omega arith) (omega arith))

    rows_fit : (j : ℕ) → suc j < n → get_or log (1023 + suc j) 0 ≤ get_or log (1024 + suc j) 0
    rows_fit j h = let q : 1023 + suc j ≡ 1024 + j = omega arith in rw q (rises rows_of n rows few u i rows_step j h)

    end_fits : (j : ℕ) → suc j < n → get_or log (1535 + suc j) 0 ≤ get_or log (1536 + suc j) 0
    end_fits j h = let q : 1535 + suc j ≡ 1536 + j = omega arith in rw q (rises end_of n ends few v o end_step j h)

    record-fits : (j : ℕ) → 1 ≤ j → j < n → record_fits 0 log j ≡ true
    record-fits zero h l = absurd (omega arith)
    record-fits (suc j) h l =
        let p = stamp-fits j l in
        let q = kind_fits j l in
        let a = rows_fit j l in
        let b = end_fits j l in
        sym (later-record log (suc j) (eqb (get_or log (512 + suc j) 0) 1 || eqb (get_or log (512 + suc j) 0) 2)
        (omega arith) refl)
        ∙ search made depth 8

  pub close-fits : eqb stamps 0 && ltb kinds 2 && ltb rows 4194304 && ltb ends 4194304 && (leb (get_or log 1024 0) 2048 && leb
      (get_or log 1536 0) 2048) ≡ true
      → all_in (record_fits 0 log) 1 n ≡ true
  close-fits h =
      in-of (record_fits 0 log) 1 n
      (record-fits (search told depth 8) (search told depth 8) (search told depth 8) (search told depth 8) (search told depth 8)
      (search told depth 8))
