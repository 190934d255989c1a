-- The laws of commit that belong to no one function.
pub mod WriteLaws
pub mod CommitWork
pub mod CommitTests
pub mod CommitCores
