pub mod Heard
pub mod Picked
