-- The laws of changes that belong to no one function.
pub mod GatherLaws
pub mod ChangeLaws
