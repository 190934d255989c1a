-- What the contracts of the damage check cite.
pub mod Numbers
pub mod Parts
