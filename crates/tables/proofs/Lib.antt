-- The laws on the lent tables that belong to no one function.
pub mod Access
pub mod Stretch
pub mod Tests
pub mod Facts
pub mod Fold
pub mod ClockLaws
pub mod Slots
pub mod Sessions
pub mod Means
pub mod Chains
pub mod Fits
pub mod Undamaged
pub mod Stores
