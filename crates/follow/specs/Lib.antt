-- The step statement, and what it speaks of.
pub mod Good
pub mod Heard
pub mod Follows
