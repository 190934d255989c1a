-- The laws of the definitions, of the shared refusals and of a session that is let in.
pub mod NarrowLaws
pub mod EnterLaws
pub mod Entered
pub mod Serving
pub mod StoreLaws
pub mod ListLaws
pub mod OpenLaws
