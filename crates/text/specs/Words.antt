-- The word that a field is, as the code's type.
use Rattle.std.specs.Prelude.{ℕ, Bool, true, false, List, Option, Some, None}
use Rattle.text.specs.declared.words.Word.{Word}
use Rattle.text.specs.declared.words.Word.TheVariants.{Column, Begin, Query, Read, Update}
use Rattle.text.specs.declared.words.Word.TheVariants.{Delete, Insert, Commit, Tidy, Abort}
use Rattle.text.specs.Bytes.{bytes, same}

-- the word where the test holds, or what else there is
unfoldable pub or_word : Bool → Word → Option Word → Option Word
or_word true w v = Some w
or_word false w v = v

-- the word that a field is, if it is one
unfoldable pub word_of : List ℕ → Option Word
word_of f =
    or_word (same f (bytes "column")) Column (
    or_word (same f (bytes "begin")) Begin (
    or_word (same f (bytes "query")) Query (
    or_word (same f (bytes "read")) Read (
    or_word (same f (bytes "update")) Update (
    or_word (same f (bytes "delete")) Delete (
    or_word (same f (bytes "insert")) Insert (
    or_word (same f (bytes "commit")) Commit (
    or_word (same f (bytes "tidy")) Tidy (
    or_word (same f (bytes "abort")) Abort (
    None))))))))))
