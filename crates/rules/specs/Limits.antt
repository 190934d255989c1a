-- The limits of document 01, each under a name of its own.
use Rattle.std.specs.Prelude.{ℕ}

-- "C from 1 to 32"
unfoldable pub max_values : ℕ
max_values = 32

-- "Rows are numbered from 0, at most 2,048."
unfoldable pub max_rows : ℕ
max_rows = 2048

-- "Versions: at most 96 slots"
unfoldable pub max_slots : ℕ
max_slots = 96

-- "Log: at most 512 records."
unfoldable pub max_records : ℕ
max_records = 512

-- "At most 2,048 changes in all"
unfoldable pub max_changes : ℕ
max_changes = 2048

-- "The session table has 16 places."
unfoldable pub max_sessions : ℕ
max_sessions = 16

-- "a list of at most 32 entries"
unfoldable pub max_entries : ℕ
max_entries = 32

-- "A vector has 32 words of 64 bits": what a query needs of its scratch
unfoldable pub vector_words : ℕ
vector_words = 32

-- "count greater than the threshold, 8 unless the caller passes another"
unfoldable pub usual_threshold : ℕ
usual_threshold = 8
