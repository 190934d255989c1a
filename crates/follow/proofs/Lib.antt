-- The step theorems: what they share, and each call.
pub mod Good
pub mod Create
pub mod Query
pub mod Update
pub mod Begin
pub mod NewRecord
pub mod NewSlot
pub mod Commit
