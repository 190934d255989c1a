-- "For each public call, input and refusal, the contract determines the answer and every cell of the lent tables and scratch
-- afterwards": what that says of a contract.
use Rattle.std.specs.Prelude.{◌≡◌, List, ℕ, Result}
use Rattle.tables.specs.declared.refusal.Refusal.{Refusal}
use Rattle.tables.specs.Cells.{Tables}
use Rattle.outcomes.specs.declared.answers.Answer.{Answer}
use Rattle.outcomes.specs.declared.answers.Place.{Place}
use Rattle.outcomes.specs.Said.{said, place_of}
use Rattle.outcomes.specs.Outcome.{Outcome, outcome}
use Rattle.outcomes.specs.Calls.{create_of, begin_of, read_of, update_of, delete_of, insert_of, commit_of, tidy_of, abort_of}
use Rattle.outcomes.specs.Query.{query_of, picked_from}
use Rattle.outcomes.specs.Span.{span_of}

-- of the tables t: two outcomes, each the tables, the further lent buffers and the answer afterwards, that both meet the contract
-- are the same
abbrev pub Once : (Tables → Outcome) → Type 0
Once call =
    (t t₁ t₂ : Tables) (bs₁ bs₂ : List (List ℕ)) (a₁ a₂ : Result Answer Refusal)
    → outcome t₁ bs₁ (said a₁) ≡ call t → outcome t₂ bs₂ (said a₂) ≡ call t
    → (t₁ ≡ t₂) × (bs₁ ≡ bs₂) × (a₁ ≡ a₂)

-- "show that no second outcome satisfies it": of each of the calls, and of the words that the picker returns
pub record NoSecond : Type 0 where
  pub create : (c : ℕ) (column : List ℕ) → Once (λ t. create_of t c column)
  pub begin : (n : ℕ) → Once (λ t. begin_of t n)
  pub query : (scratch : List ℕ) (n v threshold : ℕ) → Once (λ t. query_of t scratch n v threshold)
  pub span : (list : List ℕ) (n a b : ℕ) → Once (λ t. span_of t list n a b)
  pub read : (n row : ℕ) → Once (λ t. read_of t n row)
  pub update : (n row v : ℕ) → Once (λ t. update_of t n row v)
  pub delete : (n row : ℕ) → Once (λ t. delete_of t n row)
  pub insert : (n v : ℕ) → Once (λ t. insert_of t n v)
  pub commit : (n : ℕ) → Once (λ t. commit_of t n)
  pub tidy : (n v : ℕ) → Once (λ t. tidy_of t n v)
  pub abort : (n : ℕ) → Once (λ t. abort_of t n)
  pub picked : (ws scratch : List ℕ) (place : Place) (p₁ p₂ : List ℕ)
      → p₁ ≡ picked_from ws scratch (place_of place) → p₂ ≡ picked_from ws scratch (place_of place) → p₁ ≡ p₂
