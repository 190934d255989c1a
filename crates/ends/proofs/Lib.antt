-- The laws of the bytes that go by, and of writes one after another.
pub mod WatchLaws
pub mod EndsLaws
