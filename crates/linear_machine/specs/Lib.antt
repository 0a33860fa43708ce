-- The specs of the crate linear_machine.
pub mod Again
pub mod laws
