pub mod Turn
pub mod Line
