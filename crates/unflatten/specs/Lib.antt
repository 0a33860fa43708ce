-- The specs of the crate unflatten.
pub mod Found
pub mod Heads
pub mod ToPut
pub mod Back
pub mod ToGrow
pub mod laws
