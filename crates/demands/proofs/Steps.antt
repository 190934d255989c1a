-- On good tables every call follows the rules: the step theorems of the calls as one.
use mathlib.Core.Path.{◌≡◌, refl, ap, ◌∙◌}
use mathlib.Core.Option.{Option, none, some}
use Prim.Native.Nat.{ℕ}
use Rattle.rules.specs.Calls.{refused}
use Rattle.rules.specs.Refusals.{refusal}
use Rattle.rules.specs.Step.{effect, step}
use Rattle.rules.proofs.Numbers.{refused-exactly, accepted-takes-effect}
use Rattle.tables.specs.Cells.{Tables}
use Rattle.tables.specs.Meaning.{meaning}
use Rattle.follow.specs.Good.{Good}
use Rattle.follow.specs.Follows.{Follows}
use Rattle.follow.proofs.Create.{create-follows}
use Rattle.follow.proofs.Begin.{begin-follows, abort-follows}
use Rattle.follow.proofs.Query.{query-follows, span-follows, read-follows}
use Rattle.follow.proofs.Update.{update-follows, delete-follows, insert-follows}
use Rattle.follow.proofs.Commit.{commit-follows, tidy-follows}
use Rattle.demands.specs.Asks.{Ask, create, begin, query, span, read, update, delete, insert, commit, tidy, abort, call_of}
use Rattle.demands.specs.Asks.{comes_to, told}

pub steps : (t : Tables) → Good t → (a : Ask) → Follows t (call_of a) (comes_to t a)
steps t g (create C col) = create-follows t g C col
steps t g (begin n) = begin-follows t g n
steps t g (query scratch n v threshold) = query-follows t g scratch n v threshold
steps t g (span list n a b) = span-follows t g list n a b
steps t g (read n r) = read-follows t g n r
steps t g (update n r v) = update-follows t g n r v
steps t g (delete n r) = delete-follows t g n r
steps t g (insert n v) = insert-follows t g n v
steps t g (commit n) = commit-follows t g n
steps t g (tidy n v) = tidy-follows t g n v
steps t g (abort n) = abort-follows t g n

-- what the caller is told is the rules' answer
pub tells : (t : Tables) → Good t → (a : Ask) → told t a ≡ (step (meaning t) (call_of a)).1
tells t g a = (steps t g a).same_answer

-- a call that answers no number is accepted
pub accepted : (t : Tables) → Good t → (a : Ask) → ((n : ℕ) → told t a ≡ refused n → ⊥) → refusal (meaning t) (call_of a) ≡ none
accepted t g a h = go (refusal (meaning t) (call_of a)) refl
  where
    go : (q : Option ℕ) → refusal (meaning t) (call_of a) ≡ q → q ≡ none
    go none e = refl
    go (some n) e = absurd (h n (tells t g a ∙ (refused-exactly (meaning t) (call_of a) n).1 e))

-- and what its caller is told is what the rules' effect answers
pub tells-effect : (t : Tables) → Good t → (a : Ask) → ((n : ℕ) → told t a ≡ refused n → ⊥) → told t a ≡ (effect (meaning t) (call_of a)).1
tells-effect t g a h = tells t g a ∙ ap (λ x. x.1) (accepted-takes-effect (meaning t) (call_of a) (accepted t g a h))
