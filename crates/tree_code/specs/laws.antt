-- The laws of the crate tree_code.
pub mod FetchSteps
pub mod LineLaws
