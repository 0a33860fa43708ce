-- The specs of the crate agree.
pub mod Demand3
pub mod laws
