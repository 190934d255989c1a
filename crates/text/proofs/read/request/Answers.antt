-- `text::read::request` meets its contract.
use Rattle.std.proofs.Common.{sym, refl, ◌∙◌, length-take-le, rules, arith}
use Rattle.text.specs.declared.words.Word.TheVariants as word
use Rattle.text.proofs.ReadLaws.{first-within, line-long, line-unread, line-column, line-some, line-none}
use Rattle.text.proofs.read.request.Goals as goal

pub returns-then-line-gt-LONGEST_LINE : goal.returns-then-line-gt-LONGEST_LINE
returns-then-line-gt-LONGEST_LINE c = line-long _ _ (omega arith)

pub slice_bounds-word_of-end : goal.slice_bounds-word_of-end
slice_bounds-word_of-end c = sym (length-take-le _ _ (first-within _ _ c.end_from-at.ensures))

pub returns-in_err-word : goal.returns-in_err-word
returns-in_err-word c =
    rw c.from_residual.ensures
    (line-unread _ _ _ (omega arith) c.requires c.end_from-at.ensures (sym c.in_err-word.was ∙ c.word_of.ensures))

pub column_request-requires : goal.column_request-requires
column_request-requires c = (first-within _ _ c.end_from-at.ensures, search rules)

pub returns-in-Column : goal.returns-in-Column
returns-in-Column c =
    line-column _ _ _ (omega arith) c.requires c.end_from-at.ensures _ (sym c.in_ok-word.was ∙ c.word_of.ensures) _ _ c.in-Column.is
    c.column_request.ensures

pub numbers-requires : goal.numbers-requires
numbers-requires c = (omega arith, first-within _ _ c.end_from-at.ensures)

pub returns-in_err-session-in-Begin : goal.returns-in_err-session-in-Begin
returns-in_err-session-in-Begin c =
    rw c.from_residual-in_err-session-in-Begin.ensures
    (line-none _ _ _ (omega arith) c.requires c.end_from-at.ensures _ (sym c.in_ok-word.was ∙ c.word_of.ensures) word.Begin c.in-Begin.is refl
    (sym c.in_err-session-in-Begin.was ∙ c.numbers.ensures))

pub returns-in_ok-session-in-Begin : goal.returns-in_ok-session-in-Begin
returns-in_ok-session-in-Begin c =
    line-some _ _ _ (omega arith) c.requires c.end_from-at.ensures _ (sym c.in_ok-word.was ∙ c.word_of.ensures) word.Begin c.in-Begin.is refl _
    (sym c.in_ok-session-in-Begin.was ∙ c.numbers.ensures)

pub numbers-requires-in-Query : goal.numbers-requires-in-Query
numbers-requires-in-Query c = (omega arith, first-within _ _ c.end_from-at.ensures)

pub returns-in_err-session-in-Query : goal.returns-in_err-session-in-Query
returns-in_err-session-in-Query c =
    rw c.from_residual-in_err-session-in-Query.ensures
    (line-none _ _ _ (omega arith) c.requires c.end_from-at.ensures _ (sym c.in_ok-word.was ∙ c.word_of.ensures) word.Query c.in-Query.is refl
    (sym c.in_err-session-in-Query.was ∙ c.numbers-in-Query.ensures))

pub returns-in_ok-session-in-Query : goal.returns-in_ok-session-in-Query
returns-in_ok-session-in-Query c =
    line-some _ _ _ (omega arith) c.requires c.end_from-at.ensures _ (sym c.in_ok-word.was ∙ c.word_of.ensures) word.Query c.in-Query.is refl _
    (sym c.in_ok-session-in-Query.was ∙ c.numbers-in-Query.ensures)

pub numbers-requires-in-Read : goal.numbers-requires-in-Read
numbers-requires-in-Read c = (omega arith, first-within _ _ c.end_from-at.ensures)

pub returns-in_err-session-in-Read : goal.returns-in_err-session-in-Read
returns-in_err-session-in-Read c =
    rw c.from_residual-in_err-session-in-Read.ensures
    (line-none _ _ _ (omega arith) c.requires c.end_from-at.ensures _ (sym c.in_ok-word.was ∙ c.word_of.ensures) word.Read c.in-Read.is refl
    (sym c.in_err-session-in-Read.was ∙ c.numbers-in-Read.ensures))

pub returns-in_ok-session-in-Read : goal.returns-in_ok-session-in-Read
returns-in_ok-session-in-Read c =
    line-some _ _ _ (omega arith) c.requires c.end_from-at.ensures _ (sym c.in_ok-word.was ∙ c.word_of.ensures) word.Read c.in-Read.is refl _
    (sym c.in_ok-session-in-Read.was ∙ c.numbers-in-Read.ensures)

pub numbers-requires-in-Update : goal.numbers-requires-in-Update
numbers-requires-in-Update c = (omega arith, first-within _ _ c.end_from-at.ensures)

pub returns-in_err-session-in-Update : goal.returns-in_err-session-in-Update
returns-in_err-session-in-Update c =
    rw c.from_residual-in_err-session-in-Update.ensures
    (line-none _ _ _ (omega arith) c.requires c.end_from-at.ensures _ (sym c.in_ok-word.was ∙ c.word_of.ensures) word.Update c.in-Update.is refl
    (sym c.in_err-session-in-Update.was ∙ c.numbers-in-Update.ensures))

pub returns-in_ok-session-in-Update : goal.returns-in_ok-session-in-Update
returns-in_ok-session-in-Update c =
    line-some _ _ _ (omega arith) c.requires c.end_from-at.ensures _ (sym c.in_ok-word.was ∙ c.word_of.ensures) word.Update c.in-Update.is refl _
    (sym c.in_ok-session-in-Update.was ∙ c.numbers-in-Update.ensures)

pub numbers-requires-in-Delete : goal.numbers-requires-in-Delete
numbers-requires-in-Delete c = (omega arith, first-within _ _ c.end_from-at.ensures)

pub returns-in_err-session-in-Delete : goal.returns-in_err-session-in-Delete
returns-in_err-session-in-Delete c =
    rw c.from_residual-in_err-session-in-Delete.ensures
    (line-none _ _ _ (omega arith) c.requires c.end_from-at.ensures _ (sym c.in_ok-word.was ∙ c.word_of.ensures) word.Delete c.in-Delete.is refl
    (sym c.in_err-session-in-Delete.was ∙ c.numbers-in-Delete.ensures))

pub returns-in_ok-session-in-Delete : goal.returns-in_ok-session-in-Delete
returns-in_ok-session-in-Delete c =
    line-some _ _ _ (omega arith) c.requires c.end_from-at.ensures _ (sym c.in_ok-word.was ∙ c.word_of.ensures) word.Delete c.in-Delete.is refl _
    (sym c.in_ok-session-in-Delete.was ∙ c.numbers-in-Delete.ensures)

pub numbers-requires-in-Insert : goal.numbers-requires-in-Insert
numbers-requires-in-Insert c = (omega arith, first-within _ _ c.end_from-at.ensures)

pub returns-in_err-session-in-Insert : goal.returns-in_err-session-in-Insert
returns-in_err-session-in-Insert c =
    rw c.from_residual-in_err-session-in-Insert.ensures
    (line-none _ _ _ (omega arith) c.requires c.end_from-at.ensures _ (sym c.in_ok-word.was ∙ c.word_of.ensures) word.Insert c.in-Insert.is refl
    (sym c.in_err-session-in-Insert.was ∙ c.numbers-in-Insert.ensures))

pub returns-in_ok-session-in-Insert : goal.returns-in_ok-session-in-Insert
returns-in_ok-session-in-Insert c =
    line-some _ _ _ (omega arith) c.requires c.end_from-at.ensures _ (sym c.in_ok-word.was ∙ c.word_of.ensures) word.Insert c.in-Insert.is refl _
    (sym c.in_ok-session-in-Insert.was ∙ c.numbers-in-Insert.ensures)

pub numbers-requires-in-Commit : goal.numbers-requires-in-Commit
numbers-requires-in-Commit c = (omega arith, first-within _ _ c.end_from-at.ensures)

pub returns-in_err-session-in-Commit : goal.returns-in_err-session-in-Commit
returns-in_err-session-in-Commit c =
    rw c.from_residual-in_err-session-in-Commit.ensures
    (line-none _ _ _ (omega arith) c.requires c.end_from-at.ensures _ (sym c.in_ok-word.was ∙ c.word_of.ensures) word.Commit c.in-Commit.is refl
    (sym c.in_err-session-in-Commit.was ∙ c.numbers-in-Commit.ensures))

pub returns-in_ok-session-in-Commit : goal.returns-in_ok-session-in-Commit
returns-in_ok-session-in-Commit c =
    line-some _ _ _ (omega arith) c.requires c.end_from-at.ensures _ (sym c.in_ok-word.was ∙ c.word_of.ensures) word.Commit c.in-Commit.is refl _
    (sym c.in_ok-session-in-Commit.was ∙ c.numbers-in-Commit.ensures)

pub numbers-requires-in-Tidy : goal.numbers-requires-in-Tidy
numbers-requires-in-Tidy c = (omega arith, first-within _ _ c.end_from-at.ensures)

pub returns-in_err-session-in-Tidy : goal.returns-in_err-session-in-Tidy
returns-in_err-session-in-Tidy c =
    rw c.from_residual-in_err-session-in-Tidy.ensures
    (line-none _ _ _ (omega arith) c.requires c.end_from-at.ensures _ (sym c.in_ok-word.was ∙ c.word_of.ensures) word.Tidy c.in-Tidy.is refl
    (sym c.in_err-session-in-Tidy.was ∙ c.numbers-in-Tidy.ensures))

pub returns-in_ok-session-in-Tidy : goal.returns-in_ok-session-in-Tidy
returns-in_ok-session-in-Tidy c =
    line-some _ _ _ (omega arith) c.requires c.end_from-at.ensures _ (sym c.in_ok-word.was ∙ c.word_of.ensures) word.Tidy c.in-Tidy.is refl _
    (sym c.in_ok-session-in-Tidy.was ∙ c.numbers-in-Tidy.ensures)

pub numbers-requires-in-Abort : goal.numbers-requires-in-Abort
numbers-requires-in-Abort c = (omega arith, first-within _ _ c.end_from-at.ensures)

pub returns-in_err-session-in-Abort : goal.returns-in_err-session-in-Abort
returns-in_err-session-in-Abort c =
    rw c.from_residual-in_err-session-in-Abort.ensures
    (line-none _ _ _ (omega arith) c.requires c.end_from-at.ensures _ (sym c.in_ok-word.was ∙ c.word_of.ensures) word.Abort c.in-Abort.is refl
    (sym c.in_err-session-in-Abort.was ∙ c.numbers-in-Abort.ensures))

pub returns-in_ok-session-in-Abort : goal.returns-in_ok-session-in-Abort
returns-in_ok-session-in-Abort c =
    line-some _ _ _ (omega arith) c.requires c.end_from-at.ensures _ (sym c.in_ok-word.was ∙ c.word_of.ensures) word.Abort c.in-Abort.is refl _
    (sym c.in_ok-session-in-Abort.was ∙ c.numbers-in-Abort.ensures)
