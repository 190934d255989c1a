-- The three demands, and what their proofs share.
pub mod One
pub mod Steps
pub mod Two
pub mod Three
