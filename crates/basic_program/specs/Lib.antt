-- The specs of the crate basic_program.
pub mod Program
pub mod Run
pub mod laws
