-- What groups of single stores do to the lent tables: each group touches its own tables only. Changes put from a place on.
use mathlib.Core.Path.{◌≡◌, refl, ap, ◌∙◌}
use mathlib.Core.List.{List, [], ◌∷◌, ◌++◌}
use Prim.Native.Nat.{ℕ, suc, ◌+◌, ◌≤◌, ◌<◌}
use native.Mathlib.Numerals.{add-one}
use native.Mathlib.Omega.{arith}
use lib.ListN.{length, set}
use lib.Seq.{sets}
use Rattle.rules.specs.State.{Change}
use Rattle.rules.specs.Commit.{commit_changes}
use Rattle.tables.specs.Cells.{Tables, tables, stamp_in, changes_in}
use Rattle.tables.specs.Sessions.{freed}
use Rattle.tables.specs.Stores.{put_slot, put_head, put_record, put_change}
use Rattle.tables.specs.Meaning.{change_at, entries, meaning}
use Rattle.tables.proofs.Stores.{length-change, kept-change}
use Rattle.outcomes.specs.Stores.{Store, clock_cell, slot_cell, word_cell, head_cell, change_cell, seat, store, stores, change_stores}
use Rattle.outcomes.specs.Stores.{record_stores, word_stores, put_changes}
use Rattle.outcomes.specs.Calls.{own, commit_rows, commit_stores}

-- one group after another
pub stores-append : (t : Tables) (a b : List Store) → stores t (a ++ b) ≡ stores (stores t a) b
stores-append t [] b = refl
stores-append t (s ∷ a) b = stores-append (store t s) a b

-- the changes of a record
pub change-stores : (t : Tables) (p : ℕ) (cs : List Change)
    → stores t (change_stores p cs) ≡ tables t.clock t.slots t.words t.heads t.log (put_changes t.changes p cs)
    t.sessions
unfolding put_changes put_change
change-stores t p [] = refl
change-stores t p (c ∷ cs) = change-stores (store (store t (change_cell p c.row)) (change_cell (2048 + p) c.flips)) (p + 1) cs

-- words
pub word-stores : (t : Tables) (p : ℕ) (ws : List ℕ)
    → stores t (word_stores p ws) ≡ tables t.clock t.slots (sets t.words p ws) t.heads t.log t.changes t.sessions
word-stores t p [] = refl
word-stores t p (w ∷ ws) =
    word-stores (store t (word_cell p w)) (p + 1) ws
    ∙ ap (λ (q : ℕ). tables t.clock t.slots (sets (set t.words p w) q ws) t.heads t.log t.changes t.sessions)
    (add-one p)

-- a slot's words, the slot, and the head of its value
pub version-stores : (t : Tables) (p : ℕ) (ws : List ℕ) (i v stamp link : ℕ)
    → stores t (word_stores p ws ++ slot_cell i v ∷ slot_cell (96 + i) stamp ∷ slot_cell (192 + i) link ∷ head_cell v i ∷ [])
    ≡ tables t.clock (put_slot t.slots i v stamp link) (sets t.words p ws) (put_head t.heads v i) t.log t.changes
    t.sessions
unfolding put_slot put_head
version-stores t p ws i v stamp link =
    stores-append t (word_stores p ws) (slot_cell i v ∷ slot_cell (96 + i) stamp ∷ slot_cell (192 + i) link ∷ head_cell v i ∷ [])
    ∙ ap (λ (u : Tables). stores u (slot_cell i v ∷ slot_cell (96 + i) stamp ∷ slot_cell (192 + i) link ∷ head_cell v i ∷ []))
    (word-stores t p ws)

-- the changes of a record and the record, where other stores go before and after
pub log-stores : (t u : Tables) (before rest : List Store) → stores t before ≡ u → (p : ℕ) (cs : List Change) (k kind rows end : ℕ)
    → stores t (before ++ change_stores p cs ++ record_stores k kind rows end ++ rest)
    ≡ stores (tables u.clock u.slots u.words u.heads (put_record u.log k kind rows end) (put_changes u.changes p cs)
    u.sessions) rest
unfolding put_record
log-stores t u before rest e p cs k kind rows end =
    stores-append t (before ++ change_stores p cs ++ record_stores k kind rows end) rest
    ∙ ap (λ (w : Tables). stores w rest)
    (stores-append t (before ++ change_stores p cs) (record_stores k kind rows end)
    ∙ ap (λ (w : Tables). stores w (record_stores k kind rows end))
    (stores-append t before (change_stores p cs) ∙ ap (λ (w : Tables). stores w (change_stores p cs)) e ∙ change-stores u p cs))

-- all that a commit stores, table by table
pub commit-stores : (t : Tables) (n : ℕ)
    → stores t (commit_stores t n)
    ≡ tables (set (set (set t.clock 2 (stamp_in t.clock + 1)) 3 (commit_rows t n)) 5 (changes_in t.clock + (own t n).count))
    t.slots t.words t.heads
    (put_record t.log (stamp_in t.clock) 1 (commit_rows t n) (changes_in t.clock + (own t n).count))
    (put_changes t.changes (changes_in t.clock) (commit_changes (meaning t) (own t n).start.0 (entries (own t n))))
    (set t.sessions n freed)
commit-stores t n =
    let end = changes_in t.clock + (own t n).count in
    log-stores t t [] (clock_cell 2 (stamp_in t.clock + 1) ∷ clock_cell 3 (commit_rows t n) ∷ clock_cell 5 end ∷ seat n freed ∷ []) refl
    (changes_in t.clock) (commit_changes (meaning t) (own t n).start.0 (entries (own t n))) (stamp_in t.clock) 1 (commit_rows t n) end

-- ---- changes put from place p on

pub length-changes : (l : List ℕ) (p : ℕ) (cs : List Change) → length (put_changes l p cs) ≡ length l
unfolding put_changes
length-changes l p [] = refl
length-changes l p (c ∷ cs) = length-changes (put_change l p c.row c.flips) (p + 1) cs ∙ length-change l p c.row c.flips

-- the changes before stay
pub changes-before : (l : List ℕ) (p : ℕ) (cs : List Change) → p + length cs ≤ 2048 → (q : ℕ) → q < p
    → change_at (put_changes l p cs) q ≡ change_at l q
unfolding put_changes
changes-before l p [] h q m = refl
changes-before l p (c ∷ cs) h q m =
    changes-before (put_change l p c.row c.flips) (p + 1) cs (omega arith) q (omega arith)
    ∙ kept-change l p c.row c.flips (omega arith) q (omega arith) (λ e. omega arith)

-- some changes after others, and one after others
pub changes-append : (l : List ℕ) (p : ℕ) (xs ys : List Change)
    → put_changes l p (xs ++ ys) ≡ put_changes (put_changes l p xs) (p + length xs) ys
unfolding put_changes
changes-append l p [] ys = let e : p ≡ p + 0 = omega arith in ap (λ (q : ℕ). put_changes l q ys) e
changes-append l p (x ∷ xs) ys =
    let l' = put_change l p x.row x.flips in
    let e : p + 1 + length xs ≡ p + suc (length xs) = omega arith in
    changes-append l' (p + 1) xs ys ∙ ap (λ (q : ℕ). put_changes (put_changes l' (p + 1) xs) q ys) e

pub changes-snoc : (l : List ℕ) (p : ℕ) (xs : List Change) (c : Change)
    → put_changes l p (xs ++ (c ∷ [])) ≡ put_change (put_changes l p xs) (p + length xs) c.row c.flips
unfolding put_changes
changes-snoc l p xs c = changes-append l p xs (c ∷ [])
