pub mod SplitLaws
pub mod NumberLaws
pub mod FieldLaws
