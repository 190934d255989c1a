-- The lent tables whose number tables are read as one view, with a session table.
use Rattle.std.specs.Prelude.{List}
use Rattle.tables.specs.declared.number_tables.NumberTables.{NumberTables}
use Rattle.tables.specs.declared.session.Session.{Session}
use Rattle.tables.specs.Cells.{Tables, tables}

-- the tables that are read, beside these sessions
abbrev pub shown : NumberTables → List Session → Tables
shown t = tables t.clock.now t.slots.now t.words.now t.heads.now t.log.now t.changes.now
