-- What the contracts of the judgement of records cite.
pub mod Parts
