-- The laws of tidy that belong to no one function.
pub mod MovedLaws
pub mod StaleLaws
pub mod SlotLaws
pub mod TidyMeets
pub mod TidyLaws
