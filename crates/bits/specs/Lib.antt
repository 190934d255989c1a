-- The vocabulary of bits: numbers by their bits, vectors by their rows, columns by their vectors.

pub mod Choice
pub mod All
pub mod Any
pub mod OrWords
pub mod Bit
pub mod Sets
pub mod Tab
pub mod Part
pub mod Words
pub mod Vec
pub mod Tail
pub mod Rows
pub mod Vectors
pub mod Column
pub mod Examples
