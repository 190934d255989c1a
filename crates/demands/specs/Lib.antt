-- What the demands speak of, and the demands.
pub mod Asks
pub mod Conditions
pub mod Demands
