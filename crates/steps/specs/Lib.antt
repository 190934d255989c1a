pub mod Desk
pub mod Answers
pub mod Program
