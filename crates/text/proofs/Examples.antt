-- Lines and answers of document 01, lines that are none, and an input's lines: the definitions compute them.
use Rattle.std.proofs.Common.{◌≡◌, ℕ, true, false, List, [], ◌∷◌, map, refl}
use mathlib.Core.Option.{none, some}
use Rattle.rules.specs.Limits.{usual_threshold, vector_words}
use Rattle.rules.specs.Calls.{create, begin, query, read, update, delete, insert, commit, tidy, abort, Answer, refused, ok, value, listed}
use Rattle.text.specs.Bytes.{bytes, same}
use Rattle.fields.specs.Split.{before, split}
use Rattle.fields.specs.Number.{is_digit, all_are_digits, value_from, is_number, number}
use Rattle.text.specs.Parse.{with_first, each, when_all, and_then, no_more, up_to254, small, holding, cell_of, both, column}
use Rattle.text.specs.Parse.{word_call, fields_call, longest_line, parse}
use Rattle.text.specs.Show.{decimal_by, decimal, spaced, show}
use Rattle.text.specs.Lines.{all_but_last, last_of, last_line, lines_of}

-- ---- the lines of document 01's run, and the other words

abbrev calls : List (List ℕ)
calls =
    bytes "column 4 1 2 0 1" ∷ bytes "begin 0" ∷ bytes "update 0 0 3" ∷ bytes "commit 0" ∷ bytes "query 1 1" ∷ bytes "tidy 0 3"
    ∷ bytes "abort 1" ∷ bytes "insert 1 2" ∷ bytes "delete 15 2047" ∷ bytes "read 0 0003" ∷ bytes "column 1"
    ∷ bytes "column 254 - 254 0" ∷ []

reads : map parse calls
    ≡ some (create 4 (some 1 ∷ some 2 ∷ some 0 ∷ some 1 ∷ [])) ∷ some (begin 0) ∷ some (update 0 0 3) ∷ some (commit 0)
    ∷ some (query 1 1 usual_threshold vector_words) ∷ some (tidy 0 3) ∷ some (abort 1) ∷ some (insert 1 2) ∷ some (delete 15 2047)
    ∷ some (read 0 3)
    ∷ some (create 1 []) ∷ some (create 254 (none ∷ some 254 ∷ some 0 ∷ [])) ∷ []
unfolding parse longest_line fields_call word_call split before same when_all and_then no_more column both small up_to254 holding cell_of each
    with_first number is_number all_are_digits is_digit value_from
reads = refl

-- ---- lines that are none: empty, an unknown word, a missing or extra field, no number, more than one space, too large in a column

abbrev nones : List (List ℕ)
nones =
    bytes "" ∷ bytes " " ∷ bytes "start 0" ∷ bytes "Begin 0" ∷ bytes "beginn 0" ∷ bytes "begin" ∷ bytes "begin 0 1" ∷ bytes "update 0 1"
    ∷ bytes "begin x" ∷ bytes "begin -" ∷ bytes "begin 00001" ∷ bytes "begin +1" ∷ bytes "begin  0" ∷ bytes " begin 0"
    ∷ bytes "begin 0 " ∷ bytes "begin\t0" ∷ bytes "begin 0\r"
    ∷ bytes "column" ∷ bytes "column -" ∷ bytes "column 255" ∷ bytes "column 1 255" ∷ bytes "column 1 0 --" ∷ bytes "column 1 0 "
    ∷ bytes "column 1 0 1x" ∷ []

unread : map parse nones
    ≡ none ∷ none ∷ none ∷ none ∷ none ∷ none ∷ none ∷ none ∷ none ∷ none ∷ none ∷ none
    ∷ none ∷ none ∷ none ∷ none ∷ none ∷ none ∷ none ∷ none ∷ none ∷ none ∷ none ∷ none ∷ []
unfolding parse longest_line fields_call word_call split before same when_all and_then no_more column both small up_to254 holding cell_of each
    with_first number is_number all_are_digits is_digit value_from
unread = refl

-- ---- answers

abbrev answers : List Answer
answers =
    ok (4 ∷ []) ∷ ok (0 ∷ 4 ∷ []) ∷ listed 1 false (3 ∷ []) ∷ listed 0 true (0 ∷ 3 ∷ 2047 ∷ []) ∷ refused 12
    ∷ value none ∷ value (some 31) ∷ ok (100 ∷ 4000000000 ∷ []) ∷ []

shows : map show answers
    ≡ bytes "ok 4" ∷ bytes "ok 0 4" ∷ bytes "ok 1 0 1 3" ∷ bytes "ok 0 1 3 0 3 2047" ∷ bytes "no 12" ∷ bytes "ok -"
    ∷ bytes "ok 31" ∷ bytes "ok 100 4000000000" ∷ []
unfolding show spaced decimal decimal_by
shows = refl

-- ---- the lines of an input: an empty one is a line, nothing after the last newline is none, a last one without a newline is one

lines : map lines_of (bytes "" ∷ bytes "\n" ∷ bytes "a\nbc\n" ∷ bytes "a\n\nbc" ∷ [])
    ≡ [] ∷ ([] ∷ []) ∷ (bytes "a" ∷ bytes "bc" ∷ []) ∷ (bytes "a" ∷ [] ∷ bytes "bc" ∷ []) ∷ []
unfolding lines_of split before all_but_last last_of last_line
lines = refl
