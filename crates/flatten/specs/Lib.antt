-- The specs of the crate flatten.
pub mod Flatten
pub mod ToFlatten
pub mod laws
