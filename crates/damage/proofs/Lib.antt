-- The laws of the damage check that belong to no one function.
pub mod SlotLaws
pub mod VectorLaws
pub mod NumberLaws
pub mod SoundLaws
