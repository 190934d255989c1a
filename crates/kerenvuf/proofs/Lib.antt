-- The laws of the exports.
pub mod AnswerLaws
pub mod HeardLaws
pub mod PickedLaws
pub mod Exported
