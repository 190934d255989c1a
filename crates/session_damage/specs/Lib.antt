-- What the contracts of the judgement of one session cite.
pub mod Parts
pub mod Judged
