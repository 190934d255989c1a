-- `text::cells::column_into` meets its contract: cells of one byte each at once, others one by one.
use Rattle.std.proofs.Common.{rules}
use Rattle.text.proofs.cells.column_into.Goals as goal

pub short_into-requires : goal.short_into-requires
short_into-requires c = (search rules, c.all_short.ensures c.if-all_short.true)
