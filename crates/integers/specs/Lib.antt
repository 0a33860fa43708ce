-- The specs of the crate integers.
pub mod Integers
pub mod Answers
pub mod laws
