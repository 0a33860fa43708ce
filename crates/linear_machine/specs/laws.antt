-- The laws of the crate linear_machine.
pub mod Again
