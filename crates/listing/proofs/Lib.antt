-- The laws of a session's list that belong to no one function.
pub mod BeginLaws
pub mod ChangeLaws
pub mod ChangeCores
