-- The laws of a line: the calls, the answers.
pub mod TurnLaws
pub mod AnswerLaws
pub mod LineLaws
