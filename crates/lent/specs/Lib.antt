pub mod Places
pub mod Seats
