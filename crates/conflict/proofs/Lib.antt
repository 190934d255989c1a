-- The laws of the search for a conflict.
pub mod ClashLaws
