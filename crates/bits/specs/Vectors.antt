-- Many vectors in one list of words: vector i is its 32 words from 32 * i on, so that row r of it is bit 2048 * i + r of them all.
use Rattle.std.specs.Prelude.{Bool, List, ℕ, ◌+◌, ◌*◌, eqb, get_or}
use Rattle.bits.specs.All.{all_below}
use Rattle.bits.specs.OrWords.{or_below, or_from}
use Rattle.bits.specs.Part.{part}
use Rattle.bits.specs.Tail.{tail_clear}

-- ---- vector i

-- vector i of the words
unfoldable pub vector_at : List ℕ → ℕ → List ℕ
vector_at ws i = part (32 * i) 32 ws

-- ---- no row from a count on in any vector: the word where the count falls of all of them at a time, then the rest of each

-- no row at or above `row` is set in any of the first n vectors
unfoldable pub tails_clear : List ℕ → ℕ → ℕ → Bool
tails_clear ws n row = all_below (λ i. tail_clear (vector_at ws i) row) n

-- word j of each of the first n vectors, as one word
unfoldable pub word_of_all : List ℕ → ℕ → ℕ → ℕ
word_of_all ws n j = or_below (λ i. get_or ws (32 * i + j) 0) n

-- words `from` to 31 of vector i, as one word
unfoldable pub rest_of : List ℕ → ℕ → ℕ → ℕ
rest_of ws from i = or_from (λ j. get_or ws (32 * i + j) 0) from 32

-- the words from `from` to 31 of each of the first n vectors are 0
unfoldable pub zeros_of_all : List ℕ → ℕ → ℕ → Bool
zeros_of_all ws n from = all_below (λ i. eqb (rest_of ws from i) 0) n
