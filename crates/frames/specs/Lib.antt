-- The specs of the crate frames.
pub mod Ends
pub mod laws
