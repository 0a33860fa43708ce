-- The laws of the crate linear.
pub mod LinearSteps
pub mod LinearTable
