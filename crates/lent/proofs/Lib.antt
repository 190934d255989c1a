-- The theorems of the places, and the laws of the loops over them.
pub mod PlaceTheorems
pub mod PlaceLaws
