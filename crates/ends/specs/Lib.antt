pub mod Watch
pub mod Ends
