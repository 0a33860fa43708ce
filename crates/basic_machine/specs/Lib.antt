-- The specs of the crate basic_machine.
pub mod Links
pub mod Pass
pub mod Accepted
pub mod laws
