-- The laws of create that belong to no one function.
pub mod CreateLaws
