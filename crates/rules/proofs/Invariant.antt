-- What number 2's sentences, where none of them fails, give of the state that the tables mean: an invariant of every call. It is
-- not the decision of number 2, which is over cells (`sound` of `tables`).
use mathlib.Core.Path.{◌≡◌}
use mathlib.Core.Bool.{false}
use mathlib.Core.Option.{Option, none, some}
use mathlib.Core.List.{List, [], ◌∷◌}
use Prim.Native.Nat.{ℕ, suc, ◌^◌, ◌≤◌, ◌<◌}
use lib.ListN.{length}
use Rattle.rules.specs.Limits.{max_values, max_rows, max_slots, max_records, max_changes, max_sessions, max_entries}
use Rattle.rules.specs.State.{Change, Log, Chain, Entry, alter, add, Session, free, opened, State, chain, session}
use Rattle.rules.specs.Log.{stamp_of, all_changes, rows_at}
use Rattle.rules.specs.Lists.{lists}

-- "A change's row is below its record's row count and its set is below C."
abbrev pub ChangesFit : ℕ → ℕ → List Change → Type 0
ChangesFit C n [] = Unit {0}
ChangesFit C n (c ∷ cs) = (c.row < n) × (c.flips < 2 ^ C) × ChangesFit C n cs

-- "row counts never fall from the first row count on and end at the current one"
abbrev pub LogFits : ℕ → ℕ → Log → ℕ → Type 0
LogFits C n [] m = n ≡ m
LogFits C n (x ∷ xs) m = (n ≤ x.rows) × ChangesFit C x.rows x.changes × LogFits C x.rows xs m

-- "Slot i below C has value i, stamp 0, no link; a later slot has .. a stamp at most the current one, and links to an earlier
-- slot of the same value with a smaller stamp. Head v names a slot of value v.": a value's stamps fall along its links, from
-- below b to 0
abbrev pub Falls : ℕ → Chain → Type 0
Falls b [] = ⊥
Falls b (x ∷ []) = (x.stamp < b) × (x.stamp ≡ 0)
Falls b (x ∷ y ∷ ys) = (x.stamp < b) × Falls x.stamp (y ∷ ys)

-- "Vector bits at or above the row count at the slot's stamp are 0."
abbrev pub VectorsFit : ℕ → Log → Chain → Type 0
VectorsFit n log [] = Unit {0}
VectorsFit n log (x ∷ xs) = ((r : ℕ) → rows_at n log x.stamp ≤ r → x.vector r ≡ false) × VectorsFit n log xs

-- "targets and inserts below C or (targets only) absent"
abbrev pub Within : ℕ → Option ℕ → Type 0
Within C none = Unit {0}
Within C (some a) = a < C

-- "rows below that count .., targets and inserts below C"
abbrev pub EntriesFit : ℕ → ℕ → List Entry → Type 0
EntriesFit C n [] = Unit {0}
EntriesFit C n (alter r t ∷ es) = (r < n) × Within C t × EntriesFit C n es
EntriesFit C n (add v ∷ es) = (v < C) × EntriesFit C n es

-- "listed once"
abbrev pub EachOnce : List Entry → Type 0
EachOnce [] = Unit {0}
EachOnce (alter r t ∷ es) = (lists es r ≡ false) × EachOnce es
EachOnce (add v ∷ es) = EachOnce es

-- "open with a start at most the stamp, the row count of that moment, at most 32 entries, rows below that count and listed
-- once, targets and inserts below C or (targets only) absent"
pub record OpenFits (C n : ℕ) (log : Log) (s m : ℕ) (es : List Entry) : Type 0 where
  pub start-old : s ≤ stamp_of log
  pub start-rows : m ≡ rows_at n log s
  pub short : length es ≤ max_entries
  pub once : EachOnce es
  pub fit : EntriesFit C m es

-- "A session is free and all 0, or open with .."
abbrev pub SessionFits : ℕ → ℕ → Log → Session → Type 0
SessionFits C n log free = Unit {0}
SessionFits C n log (opened s m es) = OpenFits C n log s m es

-- "C is 1 to 32; row count and first row count at most 2,048; stamp at most 512; slots C to 96; changes at most 2,048." and
-- the sentences above
pub record Undamaged (st : State) : Type 0 where
  pub values_low : 1 ≤ st.values
  pub values-high : st.values ≤ max_values
  pub rows-high : st.rows ≤ max_rows
  pub first-high : st.first ≤ max_rows
  pub stamp-high : stamp_of st.log ≤ max_records
  pub slots-low : st.values ≤ st.slots
  pub slots-high : st.slots ≤ max_slots
  pub changes-high : length (all_changes st.log) ≤ max_changes
  pub log-fits : LogFits st.values st.first st.log st.rows
  pub chains-are : length st.chains ≡ st.values
  pub chains-fall : (v : ℕ) → v < st.values → Falls (suc (stamp_of st.log)) (chain st.chains v)
  pub vectors-fit : (v : ℕ) → v < st.values → VectorsFit st.first st.log (chain st.chains v)
  pub sessions-are : length st.sessions ≡ max_sessions
  pub sessions-fit : (i : ℕ) → SessionFits st.values st.first st.log (session st i)
