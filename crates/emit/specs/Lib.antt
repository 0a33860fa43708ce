-- The specs of the crate emit.
pub mod Written
pub mod ToWrite
pub mod laws
