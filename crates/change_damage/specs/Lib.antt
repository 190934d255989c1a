-- What the contracts of the judgement of changes cite.
pub mod Parts
