-- The laws of bits: what its definitions come to, and what the proofs of its functions lean on.

pub mod Cases
pub mod AllLaws
pub mod AnyLaws
pub mod OrLaws
pub mod BitLaws
pub mod TrailingLaws
pub mod SetLaws
pub mod TabLaws
pub mod PartLaws
pub mod WordLaws
pub mod VecLaws
pub mod TailLaws
pub mod RowLaws
pub mod WordRows
pub mod VecOps
pub mod VectorLaws
pub mod ColumnLaws
