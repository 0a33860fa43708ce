-- The specs of the crate linear_steps.
pub mod Code
