-- The laws of records that belong to no one function.
pub mod RecordLaws
pub mod CloseLaws
