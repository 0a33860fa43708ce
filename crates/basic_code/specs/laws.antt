-- The laws of the crate basic_code.
pub mod FetchSteps
