-- What the contracts of this crate cite.
pub mod Version
pub mod Last
pub mod Flips
pub mod Query
pub mod Span
pub mod Read
