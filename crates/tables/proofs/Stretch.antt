-- Laws of a stretch of places: none, one more, two joined, its elements.
use mathlib.Core.Path.{◌≡◌, sym, ap, ◌∙◌}
use mathlib.Core.List.{List, [], ◌∷◌, ◌++◌, append-nil, append_assoc}
use mathlib.Core.Logic.{◌⊎◌, inl, inr, ⊎_elim, ◌≢◌}
use Prim.Native.Nat.{ℕ, zero, suc, ◌+◌, ◌-◌, ◌≤◌, ◌<◌}
use native.Mathlib.Nat.{eq-or-lt_of_le, le_of_suc-le-suc}
use native.Mathlib.Numerals.{add-one}
use native.Mathlib.Omega.{arith}
use lib.ListN.{length, get_or, take, drop, set, length-set}
use lib.Seq.{take_at, drop_at, ext_get_or, get_or-set_same, get_or-set_other}
use Rattle.bits.proofs.Cases.{eq-cases}
use Rattle.bits.specs.Tab.{tab}
use Rattle.bits.proofs.TabLaws.{length-tab, get_or-tab, tab-ext}
use Rattle.tables.specs.Stretch.{stretch}

module _ {A : Type 0} where
  pub stretch-none : (f : ℕ → A) (a b : ℕ) → b ≤ a → stretch f a b ≡ []
  unfolding stretch tab
  stretch-none f a b h = let z : b - a ≡ 0 = omega arith in rw z

  -- one more at the end: with `suc` for an induction, with `+ 1` for code
  pub stretch-step : (f : ℕ → A) (a b : ℕ) → a ≤ b → stretch f a (suc b) ≡ stretch f a b ++ (f b ∷ [])
  unfolding stretch tab
  stretch-step f a b h =
      let z : suc b - a ≡ suc (b - a) = omega arith in
      let q : a + (b - a) ≡ b = omega arith in
      rw (z, q)

  pub stretch-more : (f : ℕ → A) (a b : ℕ) → a ≤ b → stretch f a (b + 1) ≡ stretch f a b ++ (f b ∷ [])
  stretch-more f a b h = ap (stretch f a) (add-one b) ∙ stretch-step f a b h

  -- the same places under two functions
  pub stretch-same : (f g : ℕ → A) (a b : ℕ) → ((j : ℕ) → a ≤ j → j < b → f j ≡ g j) → stretch f a b ≡ stretch g a b
  unfolding stretch
  stretch-same f g a b h = tab-ext (λ k. f (a + k)) (λ k. g (a + k)) (b - a) (λ k l. h (a + k) (omega arith) (omega arith))

  pub length-stretch : (f : ℕ → A) (a b : ℕ) → length (stretch f a b) ≡ b - a
  unfolding stretch
  length-stretch f a b = length-tab (λ k. f (a + k)) (b - a)

  -- a table is the stretch from 0 on
  pub tab-stretch : (f : ℕ → A) (n : ℕ) → tab f n ≡ stretch f 0 n
  unfolding stretch
  tab-stretch f n =
      let z : n - 0 ≡ n = omega arith in
      tab-ext f (λ k. f (0 + k)) n (λ k l. let e : k ≡ 0 + k = omega arith in ap f e) ∙ ap (tab (λ k. f (0 + k))) (sym z)

  pub stretch-join : (f : ℕ → A) (a b c : ℕ) → a ≤ b → b ≤ c → stretch f a b ++ stretch f b c ≡ stretch f a c
  stretch-join f a b zero p q = let e : b ≡ 0 = omega arith in rw (e, stretch-none f 0 0 (omega arith), append-nil)
  stretch-join f a b (suc c) p q = go (eq-or-lt_of_le q) (λ h. stretch-join f a b c p h)
    where
      go : (b ≡ suc c) ⊎ (b < suc c) → (b ≤ c → stretch f a b ++ stretch f b c ≡ stretch f a c)
          → stretch f a b ++ stretch f b (suc c) ≡ stretch f a (suc c)
      go (inl e) ih = rw (stretch-none f b (suc c) (omega arith), append-nil, e)
      go (inr l) ih =
          rw (
            stretch-step f b c (le_of_suc-le-suc l),
            stretch-step f a c (omega arith),
            ← append_assoc (stretch f a b) (stretch f b c) (f c ∷ []),
            ih (le_of_suc-le-suc l),
          )

  pub stretch-one : (f : ℕ → A) (a : ℕ) → stretch f a (suc a) ≡ f a ∷ []
  stretch-one f a = rw (stretch-step f a a (omega arith), stretch-none f a a (omega arith))

  pub stretch-front : (f : ℕ → A) (a b : ℕ) → a < b → stretch f a b ≡ f a ∷ stretch f (suc a) b
  stretch-front f a b h =
      sym (stretch-join f a (suc a) b (omega arith) h) ∙ ap (λ (l : List A). l ++ stretch f (suc a) b) (stretch-one f a)

  -- what is taken or dropped of a table
  pub take-tab : (f : ℕ → A) (a n : ℕ) → a ≤ n → take a (tab f n) ≡ stretch f 0 a
  take-tab f a n h =
      ap (λ (l : List A). take a l) (tab-stretch f n ∙ sym (stretch-join f 0 a n (omega arith) h))
      ∙ take_at (stretch f 0 a) (stretch f a n) a (length-stretch f 0 a ∙ omega arith)

  pub drop-tab : (f : ℕ → A) (a n : ℕ) → a ≤ n → drop a (tab f n) ≡ stretch f a n
  drop-tab f a n h =
      ap (λ (l : List A). drop a l) (tab-stretch f n ∙ sym (stretch-join f 0 a n (omega arith) h))
      ∙ drop_at (stretch f 0 a) (stretch f a n) a (length-stretch f 0 a ∙ omega arith)

  pub part-tab : (f : ℕ → A) (a b n : ℕ) → a ≤ b → b ≤ n → drop a (take b (tab f n)) ≡ stretch f a b
  part-tab f a b n h l =
      ap (λ (x : List A). drop a x) (take-tab f b n l ∙ sym (tab-stretch f b)) ∙ drop-tab f a b h

  -- one place of a table changed
  pub tab-set : (d : A) (f g : ℕ → A) (n i : ℕ) → i < n → ((k : ℕ) → k < n → k ≢ i → g k ≡ f k) → tab g n ≡ set (tab f n) i (g i)
  tab-set d f g n i l h =
      ext_get_or d (tab g n) (set (tab f n) i (g i)) (length-tab g n ∙ sym (length-set (tab f n) i (g i) ∙ length-tab f n))
      (λ k m. at k (omega (arith, length-tab g n)))
    where
      at : (k : ℕ) → k < n → get_or (tab g n) k d ≡ get_or (set (tab f n) i (g i)) k d
      at k m =
          get_or-tab g n k d m
          ∙ ⊎_elim (λ (e : k ≡ i). ap g e
          ∙ sym (ap (λ (j : ℕ). get_or (set (tab f n) i (g i)) j d) e ∙ get_or-set_same (tab f n) i (g i) d (omega (arith, length-tab f n))))
          (λ (q : k ≡ i → ⊥). h k m q ∙ sym (get_or-set_other (tab f n) i k (g i) d q ∙ get_or-tab f n k d m)) (eq-cases k i)
