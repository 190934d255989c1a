-- The laws of what is written that belong to no one function.
pub mod ShowLaws
pub mod WroteLaws
pub mod RowLaws
pub mod Round
