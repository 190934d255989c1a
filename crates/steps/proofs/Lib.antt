-- The laws of lines answered one after another and of the whole program.
pub mod KeptLaws
pub mod ReplyLaws
pub mod ChunkLaws
pub mod DoesLaws
pub mod ProgramLaws
