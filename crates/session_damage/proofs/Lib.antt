-- The laws of a session's judgement that belong to no one function.
pub mod StartLaws
pub mod OnceLaws
pub mod EntryLaws
pub mod PlainLaws
pub mod JudgedLaws
