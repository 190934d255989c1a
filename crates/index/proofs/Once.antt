-- No second outcome meets the contract of a call: what an answer says determines it, and each contract is an equality with what
-- the tables and numbers passed determine.
use Rattle.std.specs.Prelude.{Result, Ok, Err, Some, None}
use mathlib.Core.Path.{◌≡◌, refl, sym, ◌∙◌, ap}
use mathlib.Core.Option.{none, some}
use mathlib.Core.List.{List, [], ◌∷◌}
use Prim.Native.Nat.{ℕ}
use lib.ListN.{get_or}
use Rattle.tables.specs.declared.refusal.Refusal.{Refusal}
use Rattle.tables.specs.declared.refusal.Refusal.TheVariants.{NoRoom, Damaged, BadColumn, NoSession, NotOpen, NoValue, NoRow}
use Rattle.tables.specs.declared.refusal.Refusal.TheVariants.{RowAbsent, ListFull, ShortScratch, ListEmpty, Conflict, NothingToMove, Stale}
use Rattle.tables.specs.declared.refusal.Refusal.TheVariants.{RowsFull, RecordsFull, ChangesFull, SlotsFull, Unreadable, Backward}
use Rattle.tables.specs.declared.refusal.Refusal.TheVariants.{ShortList}
use Rattle.tables.specs.Refusals.{number_of}
use Rattle.outcomes.specs.declared.answers.Answer.{Answer}
use Rattle.outcomes.specs.declared.answers.Answer.TheVariants.{Count, At, Read, Listed}
use Rattle.outcomes.specs.declared.answers.Place.TheVariants.{Slot, Scratch}
use Rattle.outcomes.specs.Said.{Said, no, numbers, value, words, said}
use Rattle.outcomes.specs.Outcome.{Outcome}
use Rattle.index.specs.Once.{Once, NoSecond}

-- ---- the reason that a number is given for
reasons : List Refusal
reasons =
    NoRoom ∷ Damaged ∷ BadColumn ∷ NoSession ∷ NotOpen ∷ NoValue ∷ NoRow ∷ RowAbsent ∷ ListFull ∷ ShortScratch ∷ ListEmpty ∷ Conflict
    ∷ NothingToMove ∷ Stale ∷ RowsFull ∷ RecordsFull ∷ ChangesFull ∷ SlotsFull ∷ Unreadable ∷ Backward ∷ ShortList
    ∷ []

abbrev reason_of : ℕ → Refusal
reason_of n = get_or (NoRoom ∷ reasons) n NoRoom

reason-again : (x : Refusal) → reason_of (number_of x) ≡ x
unfolding reasons
reason-again NoRoom = refl
reason-again Damaged = refl
reason-again BadColumn = refl
reason-again NoSession = refl
reason-again NotOpen = refl
reason-again NoValue = refl
reason-again NoRow = refl
reason-again RowAbsent = refl
reason-again ListFull = refl
reason-again ShortScratch = refl
reason-again ListEmpty = refl
reason-again Conflict = refl
reason-again NothingToMove = refl
reason-again Stale = refl
reason-again RowsFull = refl
reason-again RecordsFull = refl
reason-again ChangesFull = refl
reason-again SlotsFull = refl
reason-again Unreadable = refl
reason-again Backward = refl
reason-again ShortList = refl

-- ---- the answer that says this; where none does, any
abbrev answer_of : Said → Result Answer Refusal
answer_of (no n) = Err (reason_of n)
answer_of (numbers []) = Ok (Count 0)
answer_of (numbers (n ∷ [])) = Ok (Count n)
answer_of (numbers (s ∷ n ∷ [])) = Ok (At (record { 0 = s }) (record { 0 = n }))
answer_of (numbers (s ∷ n ∷ m ∷ ns)) = Ok (Count 0)
answer_of (value none) = Ok (Read None)
answer_of (value (some v)) = Ok (Read (Some (record { 0 = v })))
answer_of (words n d none) = Ok (Listed n d Scratch)
answer_of (words n d (some i)) = Ok (Listed n d (Slot i))

answer-again : (a : Result Answer Refusal) → answer_of (said a) ≡ a
answer-again (Err why) = ap Err (reason-again why)
answer-again (Ok (Count n)) = refl
answer-again (Ok (At s n)) = refl
answer-again (Ok (Read (Some v))) = refl
answer-again (Ok (Read None)) = refl
answer-again (Ok (Listed n d (Slot i))) = refl
answer-again (Ok (Listed n d Scratch)) = refl

-- two answers that say the same are one
pub said-one : (a b : Result Answer Refusal) → said a ≡ said b → a ≡ b
said-one a b e = sym (answer-again a) ∙ ap answer_of e ∙ answer-again b

-- ---- a contract that is an equality has no second outcome
once : (call : _) → Once call
once call t t₁ t₂ bs₁ bs₂ a₁ a₂ h₁ h₂ = (
  ap (λ (o : Outcome). o.after) (h₁ ∙ sym h₂),
  ap (λ (o : Outcome). o.buffers) (h₁ ∙ sym h₂),
  said-one a₁ a₂ (ap (λ (o : Outcome). o.answer) (h₁ ∙ sym h₂)),
)

pub no_second : NoSecond
no_second = record {
  create = λ c column. once _;
  begin = λ n. once _;
  query = λ scratch n v threshold. once _;
  span = λ list n a b. once _;
  read = λ n row. once _;
  update = λ n row v. once _;
  delete = λ n row. once _;
  insert = λ n v. once _;
  commit = λ n. once _;
  tidy = λ n v. once _;
  abort = λ n. once _;
  picked = λ ws scratch place p₁ p₂ h₁ h₂. h₁ ∙ sym h₂;
}
