-- What the caller of a call hears, in the rules' words: the answer, of a query the rows of the words that the picker returns, and of a
-- span the rows that stand in the first cells of its list.
use Rattle.std.proofs.Math.Option.{Option}
use Rattle.std.specs.Prelude.{List, [], ◌∷◌, ℕ, get_or, take}
use Rattle.bits.specs.Rows.{rows_of}
use Rattle.rules.specs.Calls.{Call, create, begin, query, span, read, update, delete, insert, commit, tidy, abort}
use Rattle.rules.specs.Calls.{Answer, refused, ok, listed, found}
use Rattle.rules.specs.Calls as rules
use Rattle.outcomes.specs.Said.{Said, no, numbers, value, words}
use Rattle.outcomes.specs.Outcome.{Outcome}
use Rattle.outcomes.specs.Query.{picked_from}

-- an answer, where the words at a place show these rows
abbrev pub heard_with : (Option ℕ → List ℕ) → Said → Answer
heard_with rows (no n) = refused n
heard_with rows (numbers ns) = ok ns
heard_with rows (value x) = rules.value x
heard_with rows (words n due place) = listed n due (rows place)

-- the scratch among the further buffers: the first, and none where none is lent
abbrev pub scratch_in : List (List ℕ) → List ℕ
scratch_in bs = get_or bs 0 []

-- the rows of the words that the picker returns once the call is done
abbrev pub rows_picked : Outcome → Option ℕ → List ℕ
rows_picked o place = rows_of (picked_from o.after.words (scratch_in o.buffers) place)

-- what is heard of what a call other than a span came to
abbrev pub heard_picked : Outcome → Answer
heard_picked o = heard_with (rows_picked o) o.answer

-- of a span: as many cells of the list as the answer says
abbrev pub heard_list : List ℕ → Said → Answer
heard_list list (no n) = refused n
heard_list list (numbers []) = ok []
heard_list list (numbers (k ∷ ns)) = found (take k list)
heard_list list (value x) = rules.value x
heard_list list (words n due place) = listed n due []

-- what is heard of what a call came to; the list of a span is the first of the further buffers
abbrev pub heard : Call → Outcome → Answer
heard (create C col) o = heard_picked o
heard (begin i) o = heard_picked o
heard (query i v t n) o = heard_picked o
heard (span i a b n) o = heard_list (get_or o.buffers 0 []) o.answer
heard (read i r) o = heard_picked o
heard (update i r v) o = heard_picked o
heard (delete i r) o = heard_picked o
heard (insert i v) o = heard_picked o
heard (commit i) o = heard_picked o
heard (tidy i v) o = heard_picked o
heard (abort i) o = heard_picked o
