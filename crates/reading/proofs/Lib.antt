-- The laws of query, span and read that belong to no one function.
pub mod ReadLaws
pub mod QueryLaws
pub mod SpanLaws
