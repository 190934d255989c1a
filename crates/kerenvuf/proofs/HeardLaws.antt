-- Nothing of what a call says is lost in its numbers: what they say, read by their kind, is what the call said.
use mathlib.Core.Path.{◌≡◌, refl, ◌∙◌, ap}
use mathlib.Core.Bool.{Bool, true, false, cond}
use mathlib.Core.Option.{Option, none, some}
use mathlib.Core.List.{List, [], ◌∷◌}
use Prim.Native.Nat.{ℕ, ◌+◌, ◌-◌, ◌<◌}
use native.Mathlib.Omega.{arith}
use borrow.Author.Tests.{lt-ltb, ne_eqb, leb-false}
use lib.Dec.{eqb, ltb}
use lib.ListN.{length}
use Rattle.rules.specs.State.{session, start_of}
use Rattle.rules.specs.Calls.{create, begin, query, span, read, update, delete, insert, commit, tidy, abort}
use Rattle.rules.specs.Refusals.{tests}
use Rattle.rules.proofs.Tests.{all-fail}
use Rattle.tables.specs.Cells.{Tables, values_in}
use Rattle.tables.specs.Meaning.{meaning}
use Rattle.tables.proofs.Facts.{parts, clock-limits}
use Rattle.tables.proofs.Means.{values-means}
use Rattle.history.specs.Version.{slot_seen}
use Rattle.history.proofs.Meets.{seen-used}
use Rattle.outcomes.proofs.Serving.{accepted}
use Rattle.outcomes.specs.Said.{no, numbers, value, words}
use Rattle.outcomes.specs.Outcome.{Outcome, unless, refusal_at, refusal_of_create}
use Rattle.outcomes.specs.Calls.{own, beginning, column_of, create_of, begin_of, read_of, update_of, delete_of, insert_of, commit_of, tidy_of}
use Rattle.outcomes.specs.Calls.{abort_of}
use Rattle.outcomes.specs.Query.{flips_seen, asked, query_of}
use Rattle.outcomes.specs.Span.{listed_span, span_of}
use Rattle.kerenvuf.specs.Heard.{place_number, decoded, Kept, AllHeard}
use Rattle.kerenvuf.specs.Picked.{place_named}

-- ---- each case
no-kept : (n : ℕ) → Kept (no n)
unfolding decoded
no-kept n = refl

count_kept : (n : ℕ) → Kept (numbers (n ∷ []))
unfolding decoded
count_kept n = refl

stamp-kept : (s n : ℕ) → Kept (numbers (s ∷ n ∷ []))
unfolding decoded
stamp-kept s n = refl

value-kept : (x : Option ℕ) → Kept (value x)
unfolding decoded
value-kept (some v) = refl
value-kept none = refl

scratch-kept : (n : ℕ) (due : Bool) → Kept (words n due none)
unfolding decoded place_named
scratch-kept n true = refl
scratch-kept n false = refl

slot-again : (i : ℕ) → i < 96 → place_named (place_number (some i)) ≡ some i
unfolding place_named
slot-again i l =
    let back : i + 1 - 1 ≡ i = omega arith in
    ap (λ (b : Bool). place_named (cond b (i + 1) 97)) (lt-ltb i 96 l)
    ∙ ap (λ (b : Bool). cond b none (some (i + 1 - 1))) (ne_eqb (i + 1) 0 (λ e. absurd (omega (arith, e)))) ∙ ap some back

slot_kept : (n : ℕ) (due : Bool) (i : ℕ) → i < 96 → Kept (words n due (some i))
unfolding decoded
slot_kept n true i l = ap (words n true) (slot-again i l)
slot_kept n false i l = ap (words n false) (slot-again i l)

-- ---- a call that refuses, or comes to this
unless-kept : (w : Option ℕ) (t : Tables) (bs : List (List ℕ)) (o : Outcome) → (w ≡ none → Kept o.answer)
    → Kept (unless w t bs o).answer
unfolding unless
unless-kept (some n) t bs o k = no-kept n
unless-kept none t bs o k = k refl

two-kept : (b : Bool) (o p : Outcome) → Kept o.answer → Kept p.answer → Kept (cond b o p).answer
two-kept true o p h k = h
two-kept false o p h k = k

-- ---- query: the slot that an accepted query names is one of the 96
slot-low : (t : Tables) (n v threshold length s : ℕ) → refusal_at t (query n v threshold length) ≡ none
    → slot_seen t.slots t.heads s v < 96
unfolding tests
slot-low t n v threshold length s e =
    let yes = accepted t (query n v threshold length) e in
    let l = leb-false (meaning t).values v (all-fail (tests (meaning t) (query n v threshold length)) yes.2).1.1.0 in
    let below : v < values_in t.clock = omega (arith, l, values-means t) in
    omega (arith, seen-used t yes.1 s v below, (clock-limits t.clock (parts t yes.1).clock-fits).few-slots)

module _ (t : Tables) (scratch : List ℕ) (n v threshold : ℕ) where
  abbrev start : ℕ
  start = start_of (session (meaning t) n)

  answered : refusal_at t (query n v threshold (length scratch)) ≡ none → Kept (asked t scratch start v threshold).answer
  unfolding asked
  answered e =
      two-kept (eqb (flips_seen t start v) 0) _ _
      (slot_kept 0 false (slot_seen t.slots t.heads start v) (slot-low t n v threshold (length scratch) start e))
      (scratch-kept (flips_seen t start v) (ltb threshold (flips_seen t start v)))

  query-kept : Kept (query_of t scratch n v threshold).answer
  unfolding query_of
  query-kept = unless-kept (refusal_at t (query n v threshold (length scratch))) t (scratch ∷ []) _ answered

-- ---- every call
pub all-heard : AllHeard
unfolding create_of begin_of beginning span_of listed_span read_of update_of delete_of insert_of commit_of tidy_of abort_of
all-heard = record {
  create = λ t c column. unless-kept (refusal_of_create t (create c (column_of column))) t [] _ (λ e. count_kept (length column));
  begin = λ t n. unless-kept (refusal_at t (begin n)) t [] _ (λ e. two-kept (eqb (own t n).live 1) _ _ (stamp-kept _ _) (stamp-kept _ _));
  query = query-kept;
  span = λ t list n a b. unless-kept (refusal_at t (span n a b (length list))) t (list ∷ []) _ (λ e. count_kept _);
  read = λ t n row. unless-kept (refusal_at t (read n row)) t [] _ (λ e. value-kept _);
  update = λ t n row v. unless-kept (refusal_at t (update n row v)) t [] _ (λ e. count_kept _);
  delete = λ t n row. unless-kept (refusal_at t (delete n row)) t [] _ (λ e. count_kept _);
  insert = λ t n v. unless-kept (refusal_at t (insert n v)) t [] _ (λ e. count_kept _);
  commit = λ t n. unless-kept (refusal_at t (commit n)) t [] _ (λ e. stamp-kept _ _);
  tidy = λ t n v. unless-kept (refusal_at t (tidy n v)) t [] _ (λ e. stamp-kept _ _);
  abort = λ t n. unless-kept (refusal_at t (abort n)) t [] _ (λ e. count_kept _);
}
