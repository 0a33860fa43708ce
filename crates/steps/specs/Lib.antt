-- The specs of the crate steps.
pub mod Step
