-- The laws on what the log and the versions say that belong to no one function.
pub mod VersionLaws
pub mod LastLaws
pub mod QueryLaws
pub mod ReadLaws
pub mod SpanLaws
pub mod Meets
pub mod Ready
pub mod Kept
