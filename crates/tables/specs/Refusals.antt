-- The number of each reason for a refusal: document 01's 1 to 19, then those of the requests.
use Rattle.std.specs.Prelude.{ℕ}
use Rattle.tables.specs.declared.refusal.Refusal.{Refusal}
use Rattle.tables.specs.declared.refusal.Refusal.TheVariants.{NoRoom, Damaged, BadColumn, NoSession, NotOpen, NoValue, NoRow}
use Rattle.tables.specs.declared.refusal.Refusal.TheVariants.{RowAbsent, ListFull, ShortScratch, ListEmpty, Conflict}
use Rattle.tables.specs.declared.refusal.Refusal.TheVariants.{NothingToMove, Stale, RowsFull, RecordsFull, ChangesFull}
use Rattle.tables.specs.declared.refusal.Refusal.TheVariants.{SlotsFull, Unreadable, Backward, ShortList}

abbrev pub number_of : Refusal → ℕ
number_of NoRoom = 1
number_of Damaged = 2
number_of BadColumn = 3
number_of NoSession = 4
number_of NotOpen = 5
number_of NoValue = 6
number_of NoRow = 7
number_of RowAbsent = 8
number_of ListFull = 9
number_of ShortScratch = 10
number_of ListEmpty = 11
number_of Conflict = 12
number_of NothingToMove = 13
number_of Stale = 14
number_of RowsFull = 15
number_of RecordsFull = 16
number_of ChangesFull = 17
number_of SlotsFull = 18
number_of Unreadable = 19
number_of Backward = 20
number_of ShortList = 21
