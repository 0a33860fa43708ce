-- The specs of the crate linear_code.
pub mod Bytes
pub mod Neutral
pub mod laws
